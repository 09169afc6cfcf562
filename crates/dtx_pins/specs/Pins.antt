-- Pins: what is known of a coder's pairs (ATSC A/53 Part 2, trellis coding). A coder has one pin for each step, a
-- number. Below 4 it is the pair 2 * X2 + X1 that the coder was given there. Any other number says that it isn't known.
use Rattle.std.specs.Prelude.{ℕ, ◌≡◌, ◌+◌, ◌-◌, ◌*◌, ◌/◌, ◌%◌, ◌<◌, ◌&&◌, ◌||◌, nat_eq, nat_le, Bool, List, []}
use Rattle.std.specs.Prelude.{◌∷◌, length, map, drop, slice_index, slice_index_or}
use Rattle.std.specs.List.{range_with_len, list_all}

-- the pin of step t, or 4, which says nothing
abbrev pub pin_at : List ℕ → ℕ → ℕ
pin_at pins t = slice_index_or pins t 4

-- X1 at step t of a path's levels: it is Z1
unfoldable pub x1_told : List ℕ → ℕ → ℕ
x1_told levels t = slice_index levels t / 2 % 2

-- X2 at step t: the sum of Z2 and of Z2 of the step before
unfoldable pub x2_told : List ℕ → ℕ → ℕ
x2_told levels t = (slice_index levels t / 4 + slice_index levels (t - 1) / 4) % 2

-- The levels tell the pair of step t. Of step 0 they don't tell X2, so only X1 counts there.
pub record TellsPair (pair : ℕ) (levels : List ℕ) (t : ℕ) : Type 0 where
  pub x1 : x1_told levels t ≡ pair % 2
  pub x2 : 0 < t → x2_told levels t ≡ pair / 2

-- the levels tell the pair of each pin
abbrev pub Agrees : List ℕ → List ℕ → Type 0
Agrees pins levels = (t : ℕ) → t < length levels → pin_at pins t < 4 → TellsPair (pin_at pins t) levels t

-- ---- the same, level by level

-- the pair that a level tells behind a former Z2
abbrev pub pair_of : ℕ → ℕ → ℕ
pair_of former z = 2 * ((z / 4 + former) % 2) + z / 2 % 2

-- whether levels agree with pins, where the Z2 before the first level is known too
abbrev pub AgreesFrom : ℕ → List ℕ → List ℕ → Type 0
AgreesFrom former pins [] = Unit {0}
AgreesFrom former pins (z ∷ levels) =
    (pin_at pins 0 < 4 → pair_of former z ≡ pin_at pins 0) × AgreesFrom (z / 4) (drop 1 pins) levels

-- ---- the same as tests

unfoldable pub tells_pair : ℕ → List ℕ → ℕ → Bool
tells_pair pair levels t = nat_eq (x1_told levels t) (pair % 2) && (nat_eq t 0 || nat_eq (x2_told levels t) (pair / 2))

unfoldable pub agrees : List ℕ → List ℕ → Bool
agrees pins levels =
    list_all (λ t. nat_le 4 (pin_at pins t) || tells_pair (pin_at pins t) levels t) (range_with_len 0 (length levels))

-- each of twelve pins at each step tells a pair
abbrev pub AreAllTold : List (List ℕ) → Type 0
AreAllTold pins = (t e : ℕ) → t < length pins → e < 12 → pin_at (slice_index_or pins t []) e < 4

-- the pins of coder e, of a list that has an entry for each step and in it a pin for each coder
unfoldable pub coder_pins : List (List ℕ) → ℕ → List ℕ
coder_pins pins e = map (λ entry. pin_at entry e) pins
