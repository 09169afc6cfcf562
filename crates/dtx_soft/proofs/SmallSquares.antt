-- Squares of small differences, and multiples of a scale.
use Rattle.std.proofs.Common.{◌≡◌, ℕ, ℤ, pos, ◌*◌, ◌<◌, ◌≤◌, ◌+ℤ◌, ◌-ℤ◌, ◌≤ℤ◌, nat_abs, ap, ◌∙◌, w8, arith}
use mir.Syntax.{w16}
use mir.Val.{SFits}
use Rattle.std.proofs.lemmas.Int.{ints, to_z-of_z}
use Rattle.std.proofs.Math.Nat.{mul-le-mul_left}
use Rattle.dtx_soft.proofs.WrapsLemmas.{difference_read, read}

-- a difference of a byte and a small number, as it is read
pub off_is : (n : ℕ) (v u : ℤ) → n ≡ nat_abs (read w16 (read w16 (read w8 v) -ℤ read w16 u)) → SFits w8 v
    → pos 0 ≤ℤ (u +ℤ pos 126) → u ≤ℤ pos 126 → n ≡ nat_abs (v -ℤ u)
off_is n v u e l f g = e ∙ ap nat_abs (difference_read w16 _ _ v u (ap (read w16) (to_z-of_z w8 v l)
    ∙ to_z-of_z w16 v (omega (arith, ints))) (to_z-of_z w16 u (omega (arith, ints))) (omega (arith, ints)))

pub off_small : (n : ℕ) (v u : ℤ) → n ≡ nat_abs (read w16 (read w16 (read w8 v) -ℤ read w16 u)) → SFits w8 v
    → pos 0 ≤ℤ (u +ℤ pos 126) → u ≤ℤ pos 126 → n ≤ 254
off_small n v u e l f g = by_off (v -ℤ u) (off_is n v u e l f g) (omega (arith, ints)) (omega (arith, ints))
  where
    by_off : (off : ℤ) → n ≡ nat_abs off → pos 0 ≤ℤ (off +ℤ pos 254) → off ≤ℤ pos 254 → n ≤ 254
    by_off off h i j = omega (arith, ints)

pub square_small : (n : ℕ) → n ≤ 254 → n * n ≤ 64516
square_small n l = let step : n * n ≤ n * 254 = mul-le-mul_left n l in omega (arith, step)

pub multiple_most : (scale z : ℕ) → z < 8 → scale * (2 * z) ≤ scale * 14
multiple_most scale z l = mul-le-mul_left scale (omega arith)
