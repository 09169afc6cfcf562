-- Interleaving and de-interleaving as maps of places (ATSC A/53 Part 2, interleaving: 52 branches, each longer by 4
-- bytes than the one before it).
use Rattle.std.specs.Prelude.{ℕ, ◌≡◌, ◌-◌, ◌*◌, ◌/◌, ◌%◌, ◌<◌, ◌≤◌, nat_le, if◌then◌else◌, List, [], length, map}
use Rattle.std.specs.Prelude.{slice_index, slice_index_or}
use Rattle.std.specs.List.{range_with_len}

-- byte n of the interleaved bytes is byte n - b * m * (n mod b) of x, and 0 where that place is before the first
abbrev pub interleaved_at : ℕ → ℕ → List ℕ → ℕ → ℕ
interleaved_at b m x n = if nat_le (b * m * (n % b)) n then slice_index x (n - b * m * (n % b)) else 0

-- The interleaved bytes of x, as many as x has. Each is a byte of x from b * m * (n mod b) places before it, or one of
-- the zeros that the branches held at first.
unfoldable pub interleaved : ℕ → ℕ → List ℕ → List ℕ
interleaved b m x = map (interleaved_at b m x) (range_with_len 0 (length x))

-- y is x interleaved behind an align at which the branches held these lists. A byte of y whose source is in x is that
-- of the map. Any other one is a byte that its branch held.
pub record IsInterleavedBehind (b m : ℕ) (lists : List (List ℕ)) (x y : List ℕ) : Type 0 where
  pub long : length y ≡ length x
  pub come : (n : ℕ) → n < length x → b * m * (n % b) ≤ n → slice_index y n ≡ slice_index (interleaved b m x) n
  pub held : (n : ℕ) → n < length x → n < b * m * (n % b)
      → slice_index y n ≡ slice_index (slice_index_or lists (n % b) []) (n / b)
  pub within : (n : ℕ) → n < length x → n < b * m * (n % b) → n / b < length (slice_index_or lists (n % b) [])

-- byte n of the gathered bytes is byte n - b * m * (b - 1 - n mod b) of y, and 0 where that place is before the first
abbrev pub gathered_at : ℕ → ℕ → List ℕ → ℕ → ℕ
gathered_at b m y n = if nat_le (b * m * (b - 1 - n % b)) n then slice_index y (n - b * m * (b - 1 - n % b)) else 0

-- the gathered bytes of y, as many as y has
unfoldable pub gathered : ℕ → ℕ → List ℕ → List ℕ
gathered b m y = map (gathered_at b m y) (range_with_len 0 (length y))

-- z is y gathered behind an align at which the branches held these lists. A byte of z whose source is in y is that of
-- the map. Any other one is a byte that its branch held.
pub record IsGatheredBehind (b m : ℕ) (lists : List (List ℕ)) (y z : List ℕ) : Type 0 where
  pub long : length z ≡ length y
  pub come : (n : ℕ) → n < length y → b * m * (b - 1 - n % b) ≤ n → slice_index z n ≡ slice_index (gathered b m y) n
  pub held : (n : ℕ) → n < length y → n < b * m * (b - 1 - n % b)
      → slice_index z n ≡ slice_index (slice_index_or lists (n % b) []) (n / b)
  pub within : (n : ℕ) → n < length y → n < b * m * (b - 1 - n % b) → n / b < length (slice_index_or lists (n % b) [])
