-- Differences of costs, in units, by which the coders are decoded side by side. At one symbol the squares of all levels
-- differ by multiples of four times the scale.
use Rattle.std.specs.Prelude.{ℕ, ℤ, pos, ◌≡◌, ◌⊎◌, ◌+◌, ◌*◌, ◌/◌, ◌%◌, ◌^◌, ◌<◌, ◌≤◌, ◌+ℤ◌, ◌-ℤ◌, ◌≤ℤ◌, ◌<ℤ◌, max, min}
use Rattle.std.specs.Prelude.{List, [], ◌∷◌, length, map, drop, nat_le, nat_lt, if◌then◌else◌, slice_index}
use Rattle.std.specs.Prelude.{slice_index_or}
use Rattle.std.specs.Int.{int_min}
use Rattle.dtx_soft.specs.declared.nearest.Nearest.{Nearest}
use Rattle.dtx_soft.specs.declared.gaps.Gap.{Gap}
use Rattle.dtx_soft.specs.declared.gaps.Gaps.{Gaps}
use Rattle.dtx_soft.specs.declared.gaps.SquareGaps.{SquareGaps}
use Rattle.dtx_soft.specs.Least.{IsPotential}
use Rattle.dtx_soft.specs.Nearest.{IsTaken, cheapest}
use Rattle.dtx_soft.specs.Paths.{squared, symbol_at}

-- the unit of differences
abbrev pub unit : ℕ → ℕ
unit scale = max 1 (4 * scale)

-- Three numbers are the differences of four costs in units: of the first and the third cost, of the second and the
-- fourth, and of the third and the fourth.
pub record AreGaps (unit : ℕ) (costs : List ℕ) (even odd across : ℤ) : Type 0 where
  pub base : ℕ
  pub lift : ℕ
  pub units : List ℕ
  pub each : (s : ℕ) → s < 4 → slice_index costs s + unit * lift ≡ base + unit * slice_index units s
  pub even_is : pos (slice_index units 0) ≡ pos (slice_index units 2) +ℤ even
  pub odd_is : pos (slice_index units 1) ≡ pos (slice_index units 3) +ℤ odd
  pub across_is : pos (slice_index units 2) ≡ pos (slice_index units 3) +ℤ across

abbrev pub HasGaps : ℕ → List ℕ → Gap ℤ → Type 0
HasGaps scale costs gap = AreGaps (unit scale) costs gap.even gap.odd gap.across

-- the nearer of levels z and z + 4, and the square of what the symbol is off it
abbrev pub nearer_level : ℕ → ℤ → ℕ → ℕ
nearer_level scale symbol z =
    if nat_le (squared symbol (symbol_at scale z)) (squared symbol (symbol_at scale (z + 4))) then z else z + 4

abbrev pub nearer_square : ℕ → ℤ → ℕ → ℕ
nearer_square scale symbol z =
    min (squared symbol (symbol_at scale z)) (squared symbol (symbol_at scale (z + 4)))

-- 1 where the level of z + 2 comes before that of z
abbrev pub tie_of : ℕ → ℤ → ℕ → ℕ
tie_of scale symbol z =
    if nat_lt (nearer_level scale symbol (z + 2)) (nearer_level scale symbol z) then 1 else 0

-- the row of a symbol
unfoldable pub row_of : ℕ → ℤ → Nearest
row_of scale symbol = record {
  levels = nearer_level scale symbol 0 ∷ nearer_level scale symbol 1 ∷ nearer_level scale symbol 2
      ∷ nearer_level scale symbol 3 ∷ [];
  squares = nearer_square scale symbol 0 ∷ nearer_square scale symbol 1 ∷ nearer_square scale symbol 2
      ∷ nearer_square scale symbol 3 ∷ [];
  tie_breaks = tie_of scale symbol 0 ∷ tie_of scale symbol 1 ∷ [];
  filler = 0;
}

-- the gaps before a symbol, from the gaps of its squares and of the potentials behind it
pub record AreSums (squares : SquareGaps ℤ) (old new : Gap ℤ) : Type 0 where
  pub even : new.even ≡ (squares.across +ℤ old.across) +ℤ (int_min (squares.even +ℤ old.even) (pos 0)
      -ℤ int_min (squares.odd +ℤ old.odd) (pos 0))
  pub odd : new.odd ≡ (squares.across +ℤ old.across) +ℤ (int_min squares.even old.even
      -ℤ int_min squares.odd old.odd)
  pub across : new.across ≡ int_min (squares.odd +ℤ old.odd) (pos 0) -ℤ int_min squares.odd old.odd

-- a bit that is 1 where a number is above another one, and else 0
abbrev pub SaysAbove : ℤ → ℤ → ℕ → Type 0
SaysAbove other number bit = ((other <ℤ number) × (bit ≡ 1)) ⊎ ((number ≤ℤ other) × (bit ≡ 0))

-- the bits of the marks of a symbol
pub record AreSigns (squares : SquareGaps ℤ) (gap : Gap ℤ) (marks : ℕ) : Type 0 where
  pub first : ℕ
  pub second : ℕ
  pub third : ℕ
  pub fourth : ℕ
  pub marks_are : marks ≡ first + 2 * second + 4 * third + 8 * fourth
  pub first_says : SaysAbove (pos 0) (squares.even_tied +ℤ gap.even) first
  pub second_says : SaysAbove gap.even squares.even_tied second
  pub third_says : SaysAbove (pos 0) (squares.odd_tied +ℤ gap.odd) third
  pub fourth_says : SaysAbove gap.odd squares.odd_tied fourth

-- the gaps of the potentials before one more symbol in front
abbrev pub IsBefore : ℕ → ℤ → Gap ℤ → Gap ℤ → Type 0
IsBefore scale symbol old new = (behind before : List ℕ) → HasGaps scale behind old
    → ((s : ℕ) → s < 4 → slice_index before s ≡ cheapest (row_of scale symbol) behind s) → HasGaps scale before new

-- Bit s of the marks is for state s. It is 1 where the second of the two pairs of levels that may follow the state is
-- to be taken.
abbrev pub AreTaken : ℕ → ℤ → Gap ℤ → ℕ → Type 0
AreTaken scale symbol gap marks = (behind : List ℕ) → HasGaps scale behind gap → (s : ℕ) → s < 4
    → IsTaken (row_of scale symbol) behind s (marks / 2 ^ s % 2)

-- `IsBefore` and `AreTaken`, at a symbol that is a signed byte
pub record IsStep (scale : ℕ) (symbol : ℤ) (old new : Gap ℤ) (marks : ℕ) : Type 0 where
  pub from : pos 0 ≤ℤ (symbol +ℤ pos 128)
  pub to : symbol ≤ℤ pos 127
  pub gaps : IsBefore scale symbol old new
  pub taken : AreTaken scale symbol old marks

-- the gaps of lane n, or `other` where there is no such lane
abbrev pub gap_or : {A : Type 0} → Gaps A → ℕ → A → Gap A
gap_or gaps n other = record {
  even = slice_index_or gaps.even n other;
  odd = slice_index_or gaps.odd n other;
  across = slice_index_or gaps.across n other;
}

abbrev pub gap_at : Gaps ℤ → ℕ → Gap ℤ
gap_at gaps n = gap_or gaps n (pos 0)

-- the same in numbers of some width, by their values
abbrev pub gap_of : {A : Type 0} → (A → ℤ) → Gap A → Gap ℤ
gap_of value gap = record { even = value gap.even; odd = value gap.odd; across = value gap.across }

abbrev pub gaps_of : {A : Type 0} → (A → ℤ) → A → Gaps A → ℕ → Gap ℤ
gaps_of value other gaps n = gap_of value (gap_or gaps n other)

abbrev pub squares_of : {A : Type 0} → (A → ℤ) → SquareGaps A → SquareGaps ℤ
squares_of value squares = record {
  even = value squares.even;
  odd = value squares.odd;
  across = value squares.across;
  even_tied = value squares.even_tied;
  odd_tied = value squares.odd_tied;
}

-- the symbols of one lane, one in each round
unfoldable pub column : List (List ℤ) → ℕ → List ℤ
column rounds n = map (λ round. slice_index_or round n (pos 0)) rounds

-- gaps of the least costs over symbols from each state
pub record AreLeastGaps (scale : ℕ) (symbols : List ℤ) (gap : Gap ℤ) : Type 0 where
  pub potentials : List ℕ
  pub least : (s : ℕ) → s < 4 → IsPotential scale symbols s (slice_index potentials s)
  pub gaps : HasGaps scale potentials gap

-- at symbol t a mark for each state says which pair of levels a least path takes
pub record AreMarks (scale : ℕ) (symbols : List ℤ) (t marks : ℕ) : Type 0 where
  pub behind : List ℕ
  pub least : (s : ℕ) → s < 4 → IsPotential scale (drop (t + 1) symbols) s (slice_index behind s)
  pub taken : (s : ℕ) → s < 4
      → IsTaken (row_of scale (slice_index_or symbols t (pos 0))) behind s (marks / 2 ^ s % 2)

-- what a walk back to symbol t gives: the gaps of each lane there, in bytes or in numbers of 16 bits, and the marks
-- from there on
pub record AreWalked (scale t : ℕ) (rounds : List (List ℤ)) (gaps : ℕ → Gap ℤ) (marks : List (List ℕ)) : Type 0 where
  pub gaps_are : (n : ℕ) → n < 16 → AreLeastGaps scale (drop t (column rounds n)) (gaps n)
  pub marks_are : (k n : ℕ) → t ≤ k → k < length rounds → n < 16
      → AreMarks scale (column rounds n) k (slice_index (slice_index_or marks k []) n)
