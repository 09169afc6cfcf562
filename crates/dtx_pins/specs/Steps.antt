-- One step of the search under pins: what each level comes to, and which one is taken.
use Rattle.std.specs.Prelude.{ℕ, ℤ, ◌≡◌, ◌+◌, ◌*◌, ◌/◌, ◌%◌, ◌^◌, ◌<◌, ◌≤◌, ◌==◌, nat_le, nat_lt, if◌then◌else◌, List}
use Rattle.std.specs.Prelude.{[], slice_index, slice_index_or, pos, ◌-◌, ◌-ℤ◌, nat_abs}
use Rattle.dtx_soft.specs.Paths.{next_state, squared, symbol_at}
use Rattle.dtx_soft.specs.Nearest.{seen}

-- The least costs of a coder: entry p is for the former Z2 and has one for each state.
abbrev pub cost_at : List (List ℕ) → ℕ → ℕ → ℕ
cost_at costs former state = slice_index (slice_index_or costs former []) state

-- the four levels that may follow a state: Z0 is q1
abbrev pub level_by : ℕ → ℕ → ℕ
level_by state k = 2 * k + state / 2

-- the square of a symbol's distance from a level
abbrev pub square_of : ℕ → ℤ → ℕ → ℕ
square_of scale symbol z = squared symbol (symbol_at scale z)

-- a bound of four numbers
abbrev pub AreAtMost : ℕ → List ℕ → Type 0
AreAtMost bound xs = (s : ℕ) → s < 4 → slice_index xs s ≤ bound

-- a bound of costs
abbrev pub AreBounded : ℕ → List (List ℕ) → Type 0
AreBounded bound costs = (p s : ℕ) → p < 2 → s < 4 → cost_at costs p s ≤ bound

-- What level number k comes to from a state: what it costs itself, and the least cost behind it. A level costs the
-- square of the distance from it, or its weight.
abbrev pub through : (ℕ → ℕ) → List (List ℕ) → ℕ → ℕ → ℕ
through level_cost behind state k =
    level_cost (level_by state k) + cost_at behind (k / 2) (next_state state (level_by state k))

-- the number of the level that gives a pair: Z2 is the sum of X2 and the former Z2, and Z1 is X1
abbrev pub told_number : ℕ → ℕ → ℕ
told_number pin former = (pin + 2 * former) % 4

-- The number that a mark gives for a former Z2 and a state: two bits of it.
abbrev pub number_of : ℕ → ℕ → ℕ → ℕ
number_of mark former state = mark / 2 ^ (8 * former + 2 * state) % 4

-- What a pin adds to levels that don't give its pair: 1,400,000,000, more than any path costs. Entry 0 is for Z1 = 0
-- and entry 1 for Z1 = 1. Entry 2 is for levels whose Z2 is the former one, and entry 3 for the others.
unfoldable pub pen_of : ℕ → ℕ → ℕ
pen_of pin i =
    if nat_le 4 pin then 0 else (if (if nat_lt i 2 then pin else pin / 2) % 2 == i % 2 then 0 else 1400000000)

-- of the levels that may follow a state and give the pin's pair, the first that comes to the least
pub record IsBest (level_cost : ℕ → ℕ) (pin : ℕ) (behind : List (List ℕ)) (former state k : ℕ) : Type 0 where
  pub small : k < 4
  pub told : pin < 4 → k ≡ told_number pin former
  pub least : (j : ℕ) → j < 4 → (pin < 4 → j ≡ told_number pin former)
      → through level_cost behind state k ≤ through level_cost behind state j
  pub first : (j : ℕ) → j < 4 → (pin < 4 → j ≡ told_number pin former)
      → through level_cost behind state j ≡ through level_cost behind state k → k ≤ j

-- one symbol further to the front: the mark gives the best level of each state, and the costs are what it comes to
pub record IsStep (level_cost : ℕ → ℕ) (pin : ℕ) (old new : List (List ℕ)) (mark : ℕ) : Type 0 where
  pub best : (p s : ℕ) → p < 2 → s < 4 → IsBest level_cost pin old p s (number_of mark p s)
  pub costs : (p s : ℕ) → p < 2 → s < 4 → cost_at new p s ≡ through level_cost old s (number_of mark p s)

-- how far a symbol is below the greatest one, 127; at scale 0 each symbol counts as 0
unfoldable pub depth : ℕ → ℤ → ℕ
depth scale symbol = nat_abs (pos 127 -ℤ seen scale symbol)

-- what is the same of a level's weight at each symbol
unfoldable pub ground : ℕ → ℕ → ℕ
ground scale z = 3584 - 4 * (scale * (z * (7 - z))) - 508 * z

-- the weight of level z at a symbol
abbrev pub weight : ℕ → ℤ → ℕ → ℕ
weight scale symbol z = ground scale z + z * (4 * depth scale symbol)

-- the number of a level, the pen of its Z1 and its weight; the first pen is for Z1 = 0, and the second for Z1 = 1
abbrev pub fare : ℕ → ℤ → ℕ → ℕ → ℕ → ℕ
fare scale symbol first second z =
    weight scale symbol z + z / 2 + (if z / 2 % 2 == 0 then first else second)

-- Sums of weights stand for costs: four times the costs, and a number of units, are those sums in units and a number
-- that is the same for all.
pub record AreUnits (unit : ℕ) (costs sums : List (List ℕ)) : Type 0 where
  pub base : ℕ
  pub lift : ℕ
  pub each : (p s : ℕ) → p < 2 → s < 4 → 4 * cost_at costs p s + unit * lift ≡ base + unit * cost_at sums p s

-- all are multiples of four
abbrev pub AreMultiples : List (List ℕ) → Type 0
AreMultiples sums = (p s : ℕ) → p < 2 → s < 4 → cost_at sums p s % 4 ≡ 0
