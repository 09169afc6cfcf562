-- The column of a place.
use Rattle.std.proofs.Common.{◌≡◌, ℕ, ◌+◌, ◌*◌, ◌<◌, List, length, get_or, arith}
use Rattle.std.proofs.lemmas.List.FromFn.{get_or-map-range_with_len, length-map-range_with_len}
use Rattle.dtx_spread.specs.Rings.{count_at, column}

pub length-column : (b : ℕ) (bytes : List ℕ) (p : ℕ) → length (column b bytes p) ≡ count_at b (length bytes) p
length-column b bytes p = length-map-range_with_len (λ k. get_or bytes (p + k * b) 0) 0 (count_at b (length bytes) p)

pub column_at : (b : ℕ) (bytes : List ℕ) (p k : ℕ) → k < count_at b (length bytes) p
    → get_or (column b bytes p) k 0 ≡ get_or bytes (p + k * b) 0
column_at b bytes p k l = grind (arith, get_or-map-range_with_len)
