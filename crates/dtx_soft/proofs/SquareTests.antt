-- The formulas of the squares' gaps, tested at each scale and symbol. The eight squares and the formulas are handed on,
-- so that each is computed once.
use Rattle.std.proofs.Common.{◌≡◌, ℕ, ℤ, pos, ◌+◌, ◌*◌, ◌/◌, ◌%◌, ◌+ℤ◌, ◌-ℤ◌, nat_abs, Bool, true, ◌&&◌, cond, min}
use Rattle.std.proofs.Common.{nat_eq, nat_le, nat_lt, refl}
use Rattle.std.specs.Ordering.{int_eq}
use Rattle.dtx_lists.proofs.Below.{holds_below}
use Rattle.dtx_soft.specs.Gaps.{unit}
use Rattle.dtx_soft.specs.Paths.{squared, symbol_at}
use Rattle.dtx_soft.specs.Nearest.{across_of, even_of, odd_of, seen}

abbrev pub lifted : ℤ → ℕ
lifted x = nat_abs (pos 2048 +ℤ x)

-- whether four lesser squares are small, and differ by these gaps
unfoldable pub have_gaps : (unit a b c d : ℕ) (even odd across : ℤ) → Bool
have_gaps unit a b c d even odd across = nat_eq (a + unit * 2048) (d + unit * lifted (across +ℤ even))
    && (nat_eq (b + unit * 2048) (d + unit * lifted odd) && (nat_eq (c + unit * 2048) (d + unit * lifted across)
    && (nat_le a 64516 && (nat_le b 64516 && (nat_le c 64516 && nat_le d 64516)))))

-- whether a gap is 1 more where the level of a second pair comes first
unfoldable pub is_tied : (gap tied : ℤ) (first second : ℕ) → Bool
is_tied gap tied first second = int_eq tied (gap +ℤ pos (cond (nat_lt second first) 1 0))

-- the nearer of two levels, from their squares
unfoldable pub level_by : (square other z : ℕ) → ℕ
level_by square other z = cond (nat_le square other) z (z + 4)

-- all of it, from the levels and the formulas
unfoldable pub levels_pass : (even odd even_tied odd_tied : ℤ) (a b c d : ℕ) → Bool
levels_pass even odd even_tied odd_tied a b c d = is_tied even even_tied a c && is_tied odd odd_tied b d

-- and from the squares
unfoldable pub squares_pass : (scale : ℕ) (even odd across even_tied odd_tied : ℤ) (a b c d e f g h : ℕ) → Bool
squares_pass scale even odd across even_tied odd_tied a b c d e f g h =
    have_gaps (unit scale) (min a e) (min b f) (min c g) (min d h) even odd across
    && levels_pass even odd even_tied odd_tied (level_by a e 0) (level_by b f 1) (level_by c g 2) (level_by d h 3)

unfoldable pub formulas_pass : (scale : ℕ) (symbol seen : ℤ) → Bool
formulas_pass scale symbol seen =
    squares_pass scale (even_of scale seen (pos 0)) (odd_of scale seen (pos 0)) (across_of scale seen)
    (even_of scale seen (pos 1)) (odd_of scale seen (pos 1)) (squared symbol (symbol_at scale 0))
    (squared symbol (symbol_at scale 1)) (squared symbol (symbol_at scale 2)) (squared symbol (symbol_at scale 3))
    (squared symbol (symbol_at scale 4)) (squared symbol (symbol_at scale 5)) (squared symbol (symbol_at scale 6))
    (squared symbol (symbol_at scale 7))

unfoldable pub passes : ℕ → ℤ → Bool
passes scale symbol = formulas_pass scale symbol (seen scale symbol)

pub all_pass : holds_below (λ k. passes (k / 256) (pos (k % 256) -ℤ pos 128)) 4864 ≡ true
unfolding squared symbol_at passes formulas_pass squares_pass levels_pass level_by have_gaps is_tied
all_pass = refl
