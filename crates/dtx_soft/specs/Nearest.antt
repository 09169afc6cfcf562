-- Two levels with one next state differ in Z2 alone, so only the nearer one may be on a least path.
use Rattle.std.specs.Prelude.{ℕ, ℤ, pos, ◌≡◌, ◌+◌, ◌/◌, ◌%◌, ◌<◌, ◌≤◌, ◌⊎◌, ◌-ℤ◌, min, List, length, slice_index}
use Rattle.std.specs.Prelude.{slice_index_or, ◌*◌, ◌==◌, ◌+ℤ◌, neg_ℤ, if◌then◌else◌}
use Rattle.dtx_soft.specs.Paths.{next_state, squared, symbol_at}
use Rattle.dtx_soft.specs.declared.nearest.Nearest.{Nearest}
use Rattle.std.specs.Int.{int_max, int_min}
use Rattle.dtx_soft.specs.declared.gaps.SquareGaps.{SquareGaps}

-- the one of levels z and z + 4 that is nearest to a symbol, z where both are, and the square of the distance
pub record IsNearest (scale : ℕ) (symbol : ℤ) (z level square : ℕ) : Type 0 where
  pub small : level < 8
  pub bounded : square ≤ 64516
  pub alike : level % 4 ≡ z % 4
  pub exact : square ≡ squared symbol (symbol_at scale level)
  pub nearest : (other : ℕ) → other < 8 → other % 4 ≡ z % 4 → square ≤ squared symbol (symbol_at scale other)
  pub first : (other : ℕ) → other < 8 → other % 4 ≡ z % 4 → squared symbol (symbol_at scale other) ≡ square
      → level ≤ other

-- The tie break of two levels: 1 where the other level comes before this one in order, else 0. It is added to a level's
-- cost, so that the first in order of equally costly levels is taken.
pub record IsTieBreak (level other tie : ℕ) : Type 0 where
  pub before : other < level → tie ≡ 1
  pub behind : level ≤ other → tie ≡ 0

-- the same for each of the four pairs of levels, and the tie breaks between the pairs that may follow one state
pub record AreNearest (scale : ℕ) (symbol : ℤ) (row : Nearest) : Type 0 where
  pub levels : length row.levels ≡ 4
  pub squares : length row.squares ≡ 4
  pub each : (z : ℕ) → z < 4
      → IsNearest scale symbol z (slice_index row.levels z) (slice_index row.squares z)
  pub tie_breaks : (z : ℕ) → z < 2
      → IsTieBreak (slice_index row.levels z) (slice_index row.levels (z + 2)) (slice_index row.tie_breaks z)

-- what the step by a pair's nearer level costs: its square and the potential of the state behind it
abbrev pub through : Nearest → List ℕ → ℕ → ℕ → ℕ
through row behind state z = slice_index row.squares z + slice_index behind (next_state state z)

-- the potential of a state: the lesser cost of the two pairs of levels that may follow it
abbrev pub cheapest : Nearest → List ℕ → ℕ → ℕ
cheapest row behind state = min (through row behind state (state / 2)) (through row behind state (state / 2 + 2))

-- whether a pair is to be taken before another one
abbrev pub ComesFirst : Nearest → List ℕ → ℕ → ℕ → ℕ → Type 0
ComesFirst row behind state z other = (through row behind state z ≤ through row behind state other)
    × (through row behind state z ≡ through row behind state other
    → slice_index row.levels z ≤ slice_index row.levels other)

-- which of the two pairs of levels that may follow a state is to be taken: 0 for the first and 1 for the second
abbrev pub IsTaken : Nearest → List ℕ → ℕ → ℕ → Type 0
IsTaken row behind state pair =
    ((pair ≡ 0) × ComesFirst row behind state (state / 2) (state / 2 + 2))
    ⊎ ((pair ≡ 1) × ComesFirst row behind state (state / 2 + 2) (state / 2))

-- entry n is the row of symbol n - 128
pub record IsTable (scale : ℕ) (rows : List Nearest) : Type 0 where
  pub long : length rows ≡ 256
  pub row : (n : ℕ) (default : Nearest) → n < 256
      → AreNearest scale (pos n -ℤ pos 128) (slice_index_or rows n default)

-- at scale 0 all levels are alike, so that a symbol doesn't matter
abbrev pub seen : ℕ → ℤ → ℤ
seen scale symbol = if scale == 0 then pos 0 else symbol

-- a number where it lies within bounds, else the nearer one of them
abbrev pub within : ℤ → ℤ → ℤ → ℤ
within low x high = int_min (int_max x low) high

-- The difference of the squares of two pairs of levels that may follow one state. The shift is twice the midst of their
-- lower levels. Between the limits the nearer levels are a lower and a higher one. The tie is 1 more where the second
-- of equal ones comes first.
abbrev pub pair_gap : (symbol tie shift low high : ℤ) → ℤ
pair_gap symbol tie shift low high =
    ((symbol +ℤ symbol) -ℤ shift) -ℤ within low (((symbol +ℤ symbol) +ℤ (symbol +ℤ symbol)) -ℤ tie) high

-- the difference of the squares of levels 0 or 4 and 2 or 6
abbrev pub even_of : ℕ → ℤ → ℤ → ℤ
even_of scale symbol tie =
    pair_gap symbol tie (pos (2 * scale)) (neg_ℤ (pos (12 * scale))) (pos (4 * scale))

-- the difference of the squares of levels 1 or 5 and 3 or 7
abbrev pub odd_of : ℕ → ℤ → ℤ → ℤ
odd_of scale symbol tie =
    pair_gap symbol tie (neg_ℤ (pos (2 * scale))) (neg_ℤ (pos (4 * scale))) (pos (12 * scale))

-- the difference of the squares of levels 2 or 6 and 3 or 7
abbrev pub across_of : ℕ → ℤ → ℤ
across_of scale symbol =
    (odd_of scale symbol (pos 0) -ℤ symbol)
    +ℤ within (neg_ℤ (pos (4 * scale))) ((symbol +ℤ symbol) +ℤ (symbol +ℤ symbol)) (pos (4 * scale))

-- the same of a value for each symbol
pub record IsSquares (scale : ℕ) (symbol : ℤ) (squares : SquareGaps ℤ) : Type 0 where
  pub even : squares.even ≡ even_of scale (seen scale symbol) (pos 0)
  pub odd : squares.odd ≡ odd_of scale (seen scale symbol) (pos 0)
  pub across : squares.across ≡ across_of scale (seen scale symbol)
  pub even_tied : squares.even_tied ≡ even_of scale (seen scale symbol) (pos 1)
  pub odd_tied : squares.odd_tied ≡ odd_of scale (seen scale symbol) (pos 1)
