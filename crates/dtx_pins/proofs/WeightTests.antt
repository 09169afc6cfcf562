-- Weights, tested at each scale, symbol and level.
use Rattle.std.proofs.Common.{◌≡◌, ℕ, ℤ, pos, ◌+◌, ◌*◌, ◌/◌, ◌%◌, ◌<◌, ◌≤◌, ◌+ℤ◌, ◌-ℤ◌, ◌≤ℤ◌, nat_abs, Bool, true}
use Rattle.std.proofs.Common.{false, ◌&&◌, nat_eq, nat_le, refl, subst, arith}
use Rattle.std.proofs.lemmas.Int.{ints}
use Rattle.std.proofs.lemmas.Bool.Decides.{nat_tests, Decides-eqb}
use Rattle.dtx_lists.proofs.Below.{at_below, holds_below}
use Rattle.dtx_soft.specs.Gaps.{unit}
use Rattle.dtx_soft.specs.Paths.{squared, symbol_at}
use Rattle.dtx_pins.specs.Steps.{square_of, depth, ground, weight}

-- whether a square and a weight go together, and are small, where the square of level 0 is given
unfoldable fits : (unit first square weight : ℕ) → Bool
fits unit first square weight = nat_eq (4 * square + unit * 3584) (4 * first + unit * weight)
    && (nat_le weight 7168 && (nat_eq (weight % 4) 0 && nat_le square 64516))

unfoldable passes : ℕ → ℤ → ℕ → Bool
passes scale symbol z = fits (unit scale) (square_of scale symbol 0) (square_of scale symbol z) (weight scale symbol z)

all_pass : holds_below (λ k. passes (k / 2048) (pos (k / 8 % 256) -ℤ pos 128) (k % 8)) 38912 ≡ true
unfolding squared symbol_at passes fits depth ground
all_pass = refl

both : (a b : Bool) → (a && b) ≡ true → (a ≡ true) × (b ≡ true)
both true true e = (refl, refl)
both true false e = absurd (cc)
both false b e = absurd (cc)

same_numbers : (a b : ℕ) → nat_eq a b ≡ true → a ≡ b
same_numbers a b e = (Decides-eqb a b).0 e

at_most : (a b : ℕ) → nat_le a b ≡ true → a ≤ b
at_most a b e = grind (arith, nat_tests)

-- what the test says
pub record IsWeighed (scale : ℕ) (symbol : ℤ) (z : ℕ) : Type 0 where
  pub units : 4 * square_of scale symbol z + unit scale * 3584
      ≡ 4 * square_of scale symbol 0 + unit scale * weight scale symbol z
  pub small : weight scale symbol z ≤ 7168
  pub multiple : weight scale symbol z % 4 ≡ 0
  pub near : square_of scale symbol z ≤ 64516

opened : (scale : ℕ) (symbol : ℤ) (z : ℕ) → passes scale symbol z ≡ true → IsWeighed scale symbol z
unfolding passes fits
opened scale symbol z t = grind (arith, both, same_numbers, at_most)

tested : (scale n z : ℕ) → scale ≤ 18 → n < 256 → z < 8 → passes scale (pos n -ℤ pos 128) z ≡ true
tested scale n z l m f =
    at ((2048 * scale + 8 * n + z) / 2048) ((2048 * scale + 8 * n + z) / 8 % 256) ((2048 * scale + 8 * n + z) % 8)
    (omega arith) (omega arith) (omega arith)
    (at_below (λ k. passes (k / 2048) (pos (k / 8 % 256) -ℤ pos 128) (k % 8)) 38912 (2048 * scale + 8 * n + z) all_pass
    (omega arith))
  where
    at : (a b c : ℕ) → a ≡ scale → b ≡ n → c ≡ z → passes a (pos b -ℤ pos 128) c ≡ true
        → passes scale (pos n -ℤ pos 128) z ≡ true
    at a b c e g h t = grind arith

pub is_weighed : (scale : ℕ) (symbol : ℤ) (z : ℕ) → scale ≤ 18 → pos 0 ≤ℤ (symbol +ℤ pos 128) → symbol ≤ℤ pos 127
    → z < 8 → IsWeighed scale symbol z
is_weighed scale symbol z l from to m =
    let back : pos (nat_abs (symbol +ℤ pos 128)) -ℤ pos 128 ≡ symbol = omega (arith, ints) in
    opened scale symbol z (subst (λ v. passes scale v z ≡ true) back
    (tested scale (nat_abs (symbol +ℤ pos 128)) z l (omega (arith, ints)) m))
