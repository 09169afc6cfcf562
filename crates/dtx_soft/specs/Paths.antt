-- The paths of one trellis coder, as level numbers, and what they cost (ATSC A/53 Part 2, trellis coding). Its precoder
-- may give any Z2, so a state is only 2 * q1 + q0.
use Rattle.std.specs.Prelude.{ℕ, ℤ, pos, ◌≡◌, ◌+◌, ◌*◌, ◌/◌, ◌%◌, ◌<◌, ◌-ℤ◌, nat_abs, List, [], ◌∷◌, map}
use Rattle.std.specs.List.{sum_by, zip}

-- the state behind level z: the new q1 is Z1 + q0, and q0 is the old q1
unfoldable pub next_state : ℕ → ℕ → ℕ
next_state state z = 2 * ((z / 2 % 2 + state % 2) % 2) + state / 2

-- Whether levels are a path from a state: Z0 is q1 at each step.
abbrev pub IsPath : ℕ → List ℕ → Type 0
IsPath state [] = Unit {0}
IsPath state (z ∷ levels) = (z < 8) × (z % 2 ≡ state / 2) × IsPath (next_state state z) levels

-- the symbol of level z, which is 2 * z - 7 at scale 1
unfoldable pub symbol_at : ℕ → ℕ → ℤ
symbol_at scale z = pos (scale * (2 * z)) -ℤ pos (scale * 7)

-- the square of the difference of two symbols
unfoldable pub squared : ℤ → ℤ → ℕ
squared a b = nat_abs (a -ℤ b) * nat_abs (a -ℤ b)

-- the sum of the squares of all differences
unfoldable pub distance : List ℤ → List ℤ → ℕ
distance symbols others = sum_by (λ pair. squared pair.0 pair.1) (zip symbols others)

-- what levels cost: how far the symbols are off those of the levels
unfoldable pub cost : ℕ → List ℤ → List ℕ → ℕ
cost scale symbols levels = distance symbols (map (symbol_at scale) levels)
