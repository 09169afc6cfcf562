-- The symbols of one coder as lists, and what the coders' paths cost.
use Rattle.std.proofs.Common.{◌≡◌, ℕ, ℤ, ◌+◌, ◌*◌, List, length, arith}
use Rattle.std.proofs.lemmas.List.FromFn.{length-map-range_with_len, sum_by-map-range_with_len_more}
use Rattle.dtx_soft.specs.Paths.{distance}
use Rattle.dtx_soft.specs.Coders.{coder_symbols, coders_distance}

pub length-coder_symbols : (segments : List (List ℤ)) (e : ℕ) → length (coder_symbols segments e) ≡ 69 * length segments
unfolding coder_symbols
length-coder_symbols segments e = grind (arith, length-map-range_with_len)

pub coders_distance_more : (old new : List (List ℤ)) (n : ℕ)
    → coders_distance old new (n + 1) ≡ coders_distance old new n + distance (coder_symbols old n) (coder_symbols new n)
unfolding coders_distance
coders_distance_more old new n = grind (arith, sum_by-map-range_with_len_more)
