-- Bounds of scales, symbols and differences of costs, for numbers of 8 and of 16 bits.
use Rattle.std.specs.Prelude.{ℕ, ℤ, pos, ◌≡◌, ◌+◌, ◌*◌, ◌≤◌, ◌+ℤ◌, ◌-ℤ◌, neg_ℤ, nat_abs, ◌<◌, ◌≤ℤ◌, List, [], length}
use Rattle.std.specs.Prelude.{slice_index_or, get_or}
use Rattle.dtx_soft.specs.declared.gaps.Gap.{Gap}
use Rattle.dtx_soft.specs.declared.gaps.SquareGaps.{SquareGaps}
use Rattle.dtx_soft.specs.declared.gaps.Units.{Units}

-- The least and the greatest scale, and how far off 0 a symbol may be. The squares of pairs of levels that may follow
-- one state differ by `far` at most, and those of others by `aside`. No number is more than `most` off 0.
pub record Bounds : Type 0 where
  pub least : ℕ
  pub greatest : ℕ
  pub reach : ℕ
  pub far : ℕ
  pub aside : ℕ
  pub most : ℕ

-- bytes are wide enough for symbols near 0, and 16 bits for all
abbrev pub bytes : Bounds
bytes = record { least = 1; greatest = 4; reach = 28; far = 50; aside = 26; most = 127 }

abbrev pub words : Bounds
words = record { least = 0; greatest = 18; reach = 128; far = 256; aside = 128; most = 32767 }

-- the bounds go together
pub record AreBounds (b : Bounds) : Type 0 where
  pub nearest : 2 * b.reach ≤ b.far + 6 * b.least
  pub highest : 4 * b.greatest + 1 ≤ b.far
  pub across : b.reach ≤ b.aside + 2 * b.least
  pub between : 3 * b.greatest ≤ b.aside
  pub sums : 2 * b.far + b.aside ≤ b.most
  pub multiples : 12 * b.greatest ≤ b.most
  pub symbols : 4 * b.reach + 1 ≤ b.most
  pub shifted : 2 * b.reach + 2 * b.greatest ≤ b.most
  pub lifted : b.far + b.aside ≤ 2048
  pub small : b.greatest ≤ 18

abbrev pub Fits : Bounds → ℤ → Type 0
Fits b number = nat_abs number ≤ b.most

abbrev pub IsReached : Bounds → ℤ → Type 0
IsReached b symbol = nat_abs symbol ≤ b.reach

pub record IsScale (b : Bounds) (scale : ℕ) : Type 0 where
  pub from : b.least ≤ scale
  pub to : scale ≤ b.greatest

-- multiples of such a scale
pub record AreUnits {A : Type 0} (b : Bounds) (value : A → ℤ) (units : Units A) : Type 0 where
  pub scale : IsScale b units.scale
  pub two : value units.two ≡ pos (2 * units.scale)
  pub two_below : value units.two_below ≡ neg_ℤ (pos (2 * units.scale))
  pub four : value units.four ≡ pos (4 * units.scale)
  pub four_below : value units.four_below ≡ neg_ℤ (pos (4 * units.scale))
  pub twelve : value units.twelve ≡ pos (12 * units.scale)
  pub twelve_below : value units.twelve_below ≡ neg_ℤ (pos (12 * units.scale))

-- differences of a symbol's squares within the bounds
pub record AreWithin (b : Bounds) (squares : SquareGaps ℤ) : Type 0 where
  pub even : nat_abs squares.even ≤ b.far
  pub odd : nat_abs squares.odd ≤ b.far
  pub across : nat_abs squares.across ≤ b.aside
  pub beside : nat_abs (squares.odd -ℤ (squares.across +ℤ squares.even)) ≤ b.aside
  pub even_tied : nat_abs squares.even_tied ≤ b.far
  pub odd_tied : nat_abs squares.odd_tied ≤ b.far

-- bounds that the differences of potentials always keep, since two steps lead from each state to each state
pub record IsBounded (b : Bounds) (gap : Gap ℤ) : Type 0 where
  pub even : nat_abs gap.even ≤ b.far + b.aside
  pub odd : nat_abs gap.odd ≤ b.far + b.aside
  pub across : nat_abs gap.across ≤ b.far
  pub beside : nat_abs (gap.odd -ℤ (gap.even +ℤ gap.across)) ≤ b.far

-- a symbol that is at most 28 off 0
pub record IsNear (symbol : ℤ) : Type 0 where
  pub from : pos 0 ≤ℤ (symbol +ℤ pos 28)
  pub to : symbol ≤ℤ pos 28

-- a scale and the lanes' symbols, so small that all differences fit bytes
pub record FitBytes (scale : ℕ) (rounds : List (List ℤ)) : Type 0 where
  pub some : 0 < scale
  pub small : scale ≤ 4
  pub near : (t n : ℕ) → t < length rounds → n < 16 → IsNear (slice_index_or (slice_index_or rounds t []) n (pos 0))

-- each symbol is a signed byte
abbrev pub AreSigned : List (List ℤ) → Type 0
AreSigned segments = (i k : ℕ) → nat_abs (get_or (get_or segments i []) k (pos 0)) ≤ 128
