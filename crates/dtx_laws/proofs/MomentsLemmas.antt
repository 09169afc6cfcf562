-- Sums of d * x ^ i over pairs (d, x), and that they tell the d's.
use Rattle.std.proofs.Common.{◌≡◌, ◌≢◌, ℕ, zero, suc, ◌<◌, ◌≤◌, List, ◌∷◌, map, length, bit_xor, refl, sym, ap, ap₂}
use Rattle.std.proofs.Common.{◌∙◌, arith, []}
use Rattle.std.specs.List.{AllByRecursion}
use Rattle.std.specs.Int.Bits.{xor_self, xor_zero_r, xor_lt}
use Rattle.dtx_galois.specs.Field.{mul, pow}
use Rattle.dtx_galois.proofs.LinearLemmas.{mul_left, mul_right, xor_swap}
use Rattle.dtx_galois.proofs.FieldLemmas.{mul_comm, mul_assoc, mul_one, mul_zero, zero_mul, mul_small, xor_zero}
use Rattle.dtx_galois.proofs.FieldLemmas.{no_divisors, mul_swap}

-- ---- the sums

abbrev pub moment : ℕ → List (ℕ × ℕ) → ℕ
moment i [] = 0
moment i (p ∷ ps) = bit_xor (mul p.0 (pow p.1 i)) (moment i ps)

-- each d times x - y, which is 0 at x = y
abbrev pub cancelled : ℕ → List (ℕ × ℕ) → List (ℕ × ℕ)
cancelled y ps = map (λ p. (mul p.0 (bit_xor p.1 y), p.1)) ps

cancelled_term : (d x y i : ℕ)
    → mul (mul d (bit_xor x y)) (pow x i) ≡ bit_xor (mul d (pow x (suc i))) (mul y (mul d (pow x i)))
unfolding pow
cancelled_term d x y i = grind (arith, mul_assoc, mul_left, mul_right, mul_swap)

pub moment_cancelled : (y i : ℕ) (ps : List (ℕ × ℕ))
    → moment i (cancelled y ps) ≡ bit_xor (moment (suc i) ps) (mul y (moment i ps))
moment_cancelled y i [] = sym (mul_zero y)
moment_cancelled y i (p ∷ ps) = ap₂ bit_xor (cancelled_term p.0 p.1 y i) (moment_cancelled y i ps)
    ∙ xor_swap (mul p.0 (pow p.1 (suc i))) (mul y (mul p.0 (pow p.1 i))) (moment (suc i) ps) (mul y (moment i ps))
    ∙ ap (bit_xor (bit_xor (mul p.0 (pow p.1 (suc i))) (moment (suc i) ps))) (sym (grind (arith, mul_right)))

-- the pairs are of bytes, with different x's
abbrev pub ArePairs : List (ℕ × ℕ) → Type 0
ArePairs ps = AllByRecursion (λ p. (p.0 < 256) × (p.1 < 256)) ps

abbrev pub Lacks : ℕ → List (ℕ × ℕ) → Type 0
Lacks x ps = AllByRecursion (λ p. p.1 ≢ x) ps

abbrev pub AreApart : List (ℕ × ℕ) → Type 0
AreApart [] = Unit {0}
AreApart (p ∷ ps) = Lacks p.1 ps × AreApart ps

abbrev pub AreZero : List (ℕ × ℕ) → Type 0
AreZero ps = AllByRecursion (λ p. p.0 ≡ 0) ps

pub moment_zero : (i : ℕ) (ps : List (ℕ × ℕ)) → AreZero ps → moment i ps ≡ 0
moment_zero i [] z = refl
moment_zero i (p ∷ ps) z = ap₂ bit_xor (ap (λ (x : ℕ). mul x (pow p.1 i)) z.0
    ∙ zero_mul (pow p.1 i)) (moment_zero i ps z.1)

length_cancelled : (y : ℕ) (ps : List (ℕ × ℕ)) → length (cancelled y ps) ≡ length ps
length_cancelled y [] = refl
length_cancelled y (p ∷ ps) = ap suc (length_cancelled y ps)

pairs_cancelled : (y : ℕ) (ps : List (ℕ × ℕ)) → ArePairs ps → ArePairs (cancelled y ps)
pairs_cancelled y [] h = tt
pairs_cancelled y (p ∷ ps) h = ((mul_small p.0 (bit_xor p.1 y), h.0.1), pairs_cancelled y ps h.1)

lacks_cancelled : (x y : ℕ) (ps : List (ℕ × ℕ)) → Lacks x ps → Lacks x (cancelled y ps)
lacks_cancelled x y [] h = tt
lacks_cancelled x y (p ∷ ps) h = (h.0, lacks_cancelled x y ps h.1)

apart_cancelled : (y : ℕ) (ps : List (ℕ × ℕ)) → AreApart ps → AreApart (cancelled y ps)
apart_cancelled y [] h = tt
apart_cancelled y (p ∷ ps) h = (lacks_cancelled p.1 y ps h.0, apart_cancelled y ps h.1)

zero_from_cancelled : (y : ℕ) (ps : List (ℕ × ℕ)) → y < 256 → ArePairs ps → Lacks y ps → AreZero (cancelled y ps)
    → AreZero ps
zero_from_cancelled y [] l b h z = tt
zero_from_cancelled y (p ∷ ps) l b h z = (
  no_divisors p.0 (bit_xor p.1 y) b.0.0 (xor_lt 8 p.1 y b.0.1 l) (λ e. h.0 (xor_zero p.1 y e)) z.0,
  zero_from_cancelled y ps l b.1 h.1 z.1,
)

-- the first pair's own term is cancelled
own_term : (d x i : ℕ) → mul (mul d (bit_xor x x)) (pow x i) ≡ 0
own_term d x i = rw (xor_self x, mul_zero d, zero_mul (pow x i))

rest_moment : (p : ℕ × ℕ) (ps : List (ℕ × ℕ)) (i : ℕ) → moment (suc i) (p ∷ ps) ≡ 0 → moment i (p ∷ ps) ≡ 0
    → moment i (cancelled p.1 ps) ≡ 0
rest_moment p ps i e f = sym (ap (λ (x : ℕ). bit_xor x (moment i (cancelled p.1 ps))) (own_term p.0 p.1 i))
    ∙ moment_cancelled p.1 i (p ∷ ps) ∙ ap₂ bit_xor e (ap (mul p.1) f ∙ mul_zero p.1)

first_zero : (p : ℕ × ℕ) (ps : List (ℕ × ℕ)) → p.0 < 256 → AreZero ps → moment 0 (p ∷ ps) ≡ 0 → p.0 ≡ 0
unfolding pow
first_zero p ps l z e = sym (mul_comm p.0 1 ∙ mul_one p.0 l) ∙ sym (xor_zero_r (mul p.0 1))
    ∙ ap (bit_xor (mul p.0 1)) (sym (moment_zero 0 ps z)) ∙ e

-- Where the first n sums of n pairs with different x's are 0, so is each d.
pub all_zero : (n : ℕ) (ps : List (ℕ × ℕ)) → length ps ≤ n → ArePairs ps → AreApart ps
    → ((i : ℕ) → i < n → moment i ps ≡ 0) → AreZero ps
all_zero n [] l b a m = tt
all_zero zero (p ∷ ps) l b a m = absurd (omega arith)
all_zero (suc n) (p ∷ ps) l b a m =
    let rest : AreZero ps = zero_from_cancelled p.1 ps b.0.1 b.1 a.0
    (all_zero n (cancelled p.1 ps) (omega (arith, length_cancelled p.1 ps)) (pairs_cancelled p.1 ps b.1)
    (apart_cancelled p.1 ps a.1) (λ i k. rest_moment p ps i (m (suc i) (omega arith)) (m i (omega arith)))) in
    (first_zero p ps b.0.0 rest (m 0 (omega arith)), rest)
