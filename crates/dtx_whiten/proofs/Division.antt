-- Steps of a long division, and what it leaves.
use Rattle.std.proofs.Common.{◌≡◌, ℕ, zero, suc, ◌+◌, ◌*◌, ◌/◌, ◌^◌, ◌⊎◌, bit_and, bit_xor, refl, sym}
use Rattle.std.proofs.Common.{ap, ap₂, ◌∙◌, arith, inl, inr, zero-mul, one-mul, pow-suc}
use Rattle.std.proofs.Common.{add-zero, mul_assoc, mul-div_cancel, zero-lt-suc, add-suc}
use Rattle.std.specs.Int.{bit_at}
use Rattle.std.specs.Int.Bits.{xor_zero_r}
use Rattle.std.proofs.lemmas.Nat.Bits.{bit_at-lt, bit_at-suc, shr_and_one}
use Rattle.dtx_galois.specs.Field.{remainder}
use Rattle.dtx_galois.proofs.LinearLemmas.{bit_cases, shift_of_sum}

-- what the test of a bit tells
pub bit_set : (n i : ℕ) → bit_and (n / 2 ^ i) 1 ≡ 1 → bit_at n i ≡ 1
bit_set n i e = sym (shr_and_one n i) ∙ e

pub bit_clear : (n i : ℕ) → (bit_and (n / 2 ^ i) 1 ≡ 1 → ⊥) → bit_at n i ≡ 0
bit_clear n i f = zero_left (bit_at n i) (bit_cases (bit_at n i) (bit_at-lt n i)) (λ e. f (shr_and_one n i ∙ e))
  where
    zero_left : (u : ℕ) → (u ≡ 0) ⊎ (u ≡ 1) → (u ≡ 1 → ⊥) → u ≡ 0
    zero_left u (inl e) f = e
    zero_left u (inr e) f = absurd (f e)

-- one step
pub remainder_set : (d g p : ℕ) → bit_at p d ≡ 1 → remainder d g 1 p ≡ bit_xor p g
unfolding remainder
remainder_set d g p e = ap (bit_xor p) (ap (λ (x : ℕ). x * (g * 2 ^ 0)) (ap (bit_at p) (add-zero d) ∙ e)
    ∙ one-mul (g * 2 ^ 0) ∙ (let h : g * 2 ^ 0 ≡ g = omega arith in h))

pub remainder_clear : (d g p : ℕ) → bit_at p d ≡ 0 → remainder d g 1 p ≡ p
unfolding remainder
remainder_clear d g p e = ap (bit_xor p) (ap (λ (x : ℕ). x * (g * 2 ^ 0)) (ap (bit_at p) (add-zero d) ∙ e)
    ∙ zero-mul (g * 2 ^ 0)) ∙ xor_zero_r p

-- a bit one place up
bit_at-double : (p i : ℕ) → bit_at (p * 2) (suc i) ≡ bit_at p i
bit_at-double p i = bit_at-suc (p * 2) i ∙ ap (λ (x : ℕ). bit_at x i) (mul-div_cancel p (zero-lt-suc 1))

-- a division's step, one place up
double_step : (d g n p : ℕ) → bit_xor (p * 2) (bit_at (p * 2) (d + suc n) * (g * 2 ^ suc n))
    ≡ bit_xor p (bit_at p (d + n) * (g * 2 ^ n)) * 2
double_step d g n p =
    ap (bit_xor (p * 2))
    (ap₂ ◌*◌ (ap (bit_at (p * 2)) (add-suc d n) ∙ bit_at-double p (d + n)) (ap (λ (x : ℕ). g * x) (pow-suc 2 n)
    ∙ sym (mul_assoc g (2 ^ n) 2))
    ∙ sym (mul_assoc (bit_at p (d + n)) (g * 2 ^ n) 2))
    ∙ sym (shift_of_sum p (bit_at p (d + n) * (g * 2 ^ n)) 1)

-- the remainder of X * p is that of X times the remainder of p
pub remainder_double : (d g n p : ℕ) → remainder d g (suc n) (p * 2) ≡ remainder d g 1 (remainder d g n p * 2)
unfolding remainder
remainder_double d g zero p = refl
remainder_double d g (suc n) p =
    ap (remainder d g (suc n)) (double_step d g n p)
    ∙ remainder_double d g n (bit_xor p (bit_at p (d + n) * (g * 2 ^ n)))
