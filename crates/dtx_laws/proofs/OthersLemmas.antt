-- The other marked places: their weight, and that a locator marks few.
use Rattle.std.proofs.Common.{◌≡◌, ◌≢◌, ℕ, zero, suc, ◌-◌, ◌<◌, ◌≤◌, ◌⊎◌, ◌==◌, ◌&&◌, not, cond, Bool, true, false}
use Rattle.std.proofs.Common.{List, ◌∷◌, ◌++◌, length, get_or, bit_xor, refl, sym, ap, ap₂, ◌∙◌, arith, inl, inr}
use Rattle.std.proofs.Common.{add-one, []}
use Rattle.std.proofs.lemmas.List.{length_push}
use Rattle.std.proofs.lemmas.Bool.{eqb-true, eqb-false, ne_eqb, and_parts, not-true}
use Rattle.std.specs.List.{AllByRecursion}
use Rattle.std.specs.Int.Bits.{xor_comm, xor_self, xor_lt}
use Rattle.dtx_galois.specs.Field.{mul, pow, value, AreBytes, AreDifferent, IsZero}
use Rattle.dtx_galois.proofs.FieldLemmas.{mul_comm, mul_zero, zero_mul, mul_small, pow_small, xor_zero, no_divisors}
use Rattle.dtx_galois.proofs.PowersLemmas.{powers_differ}
use Rattle.dtx_galois.proofs.BytesLemmas.{bytes_push}
use Rattle.dtx_galois.proofs.ValuesLemmas.{value_push}
use Rattle.dtx_galois.proofs.RootsLemmas.{fewer_roots}
use Rattle.dtx_laws.specs.Locator.{low_value, power_at, vanishes_at, others, weight}

place_order : (q b : ℕ) → q < suc b → (q ≡ b) ⊎ (q < b)
place_order q b l = grind arith

weight_own : (x : ℕ) (ys : List ℕ) (u : Bool) → u ≡ true → weight x (cond u (x ∷ ys) ys) ≡ 0
unfolding weight
weight_own x ys true e = ap (λ (z : ℕ). mul z (weight x ys)) (xor_self x) ∙ zero_mul (weight x ys)
weight_own x ys false e = cc

weight_more : (x y : ℕ) (ys : List ℕ) (u : Bool) → weight x ys ≡ 0 → weight x (cond u (y ∷ ys) ys) ≡ 0
unfolding weight
weight_more x y ys true e = ap (mul (bit_xor x y)) e ∙ mul_zero (bit_xor x y)
weight_more x y ys false e = e

is_other : (mark : ℕ → Bool) (p q : ℕ) → mark q ≡ true → (q ≡ p → ⊥) → (mark q && not (q == p)) ≡ true
is_other mark p q t d = ap₂ (λ u v. u && not v) t (ne_eqb q p d)

weight_cases : (n : ℕ) (mark : ℕ → Bool) (p q b : ℕ) (ys : List ℕ) → mark q ≡ true → (q ≡ p → ⊥) → (q ≡ b) ⊎ (q < b)
    → (q < b → weight (power_at n q) ys ≡ 0)
    → weight (power_at n q) (cond (mark b && not (b == p)) (power_at n b ∷ ys) ys) ≡ 0
weight_cases n mark p q b ys t d (inl e) h = grind (arith, weight_own, is_other)
weight_cases n mark p q b ys t d (inr m) h = weight_more (power_at n q) (power_at n b) ys (mark b && not (b == p)) (h m)

-- a marked place among them makes the weight 0
pub weight_at_other : (n : ℕ) (mark : ℕ → Bool) (p q b : ℕ) → q < b → mark q ≡ true → (q ≡ p → ⊥)
    → weight (power_at n q) (others n mark p b) ≡ 0
unfolding others
weight_at_other n mark p q zero l t d = absurd (omega arith)
weight_at_other n mark p q (suc b) l t d =
    weight_cases n mark p q b (others n mark p b) t d (place_order q b l) (λ m. weight_at_other n mark p q b m t d)

place_cases : (p q : ℕ) → (p ≡ q → ⊥) → (p < q) ⊎ (q < p)
place_cases p q d = grind arith

differ_by : (i j : ℕ) → i < 255 → j < 255 → (i < j) ⊎ (j < i) → pow 2 i ≢ pow 2 j
differ_by i j l m (inl r) = powers_differ i j r m
differ_by i j l m (inr r) = λ e. powers_differ j i r l (sym e)

places_differ : (n p q : ℕ) → n ≤ 255 → p < n → q < n → (p ≡ q → ⊥) → power_at n p ≢ power_at n q
unfolding power_at
places_differ n p q l a b d = grind (arith, differ_by, place_cases)

power_small : (n p : ℕ) → power_at n p < 256
unfolding power_at
power_small n p = pow_small 2 (n - 1 - p)

pub weight_small : (x : ℕ) (ys : List ℕ) → weight x ys < 256
unfolding weight
weight_small x [] = omega arith
weight_small x (y ∷ ys) = mul_small (bit_xor x y) (weight x ys)

weight_step : (x y : ℕ) (ys : List ℕ) (u : Bool) → x < 256 → y < 256 → (u ≡ true → x ≢ y) → weight x ys ≢ 0
    → weight x (cond u (y ∷ ys) ys) ≢ 0
unfolding weight
weight_step x y ys true lx ly d h =
    λ e. d refl (xor_zero x y (no_divisors (bit_xor x y) (weight x ys) (xor_lt 8 x y lx ly) (weight_small x ys) h e))
weight_step x y ys false lx ly d h = h

not_same : (mark : ℕ → Bool) (p b : ℕ) → (mark b && not (b == p)) ≡ true → p ≡ b → ⊥
not_same mark p b t e = eqb-false b p (not-true (b == p) (and_parts (mark b) (not (b == p)) t).1) (sym e)

-- at place p itself it isn't 0
pub weight_not_zero : (n : ℕ) (mark : ℕ → Bool) (p b : ℕ) → n ≤ 255 → p < n → b ≤ n
    → weight (power_at n p) (others n mark p b) ≢ 0
unfolding others
weight_not_zero n mark p zero l a r = unfold weight in λ e. one_not_zero e
  where
    one_not_zero : ◌≡◌ {A = ℕ} 1 0 → ⊥
    one_not_zero e = omega arith
weight_not_zero n mark p (suc b) l a r =
    weight_step (power_at n p) (power_at n b) (others n mark p b) (mark b && not (b == p)) (power_small n p)
    (power_small n b) (λ t. grind (arith, places_differ, not_same)) (weight_not_zero n mark p b l a (omega arith))

-- ---- there are few of them

all_step : (P : ℕ → Type 0) (x : ℕ) (xs : List ℕ) (u : Bool) → (u ≡ true → P x) → AllByRecursion P xs
    → AllByRecursion P (cond u (x ∷ xs) xs)
all_step P x xs true h r = (h refl, r)
all_step P x xs false h r = r

all_others : (P : ℕ → Type 0) (n : ℕ) (mark : ℕ → Bool) (p b : ℕ) → ((q : ℕ) → q < b → mark q ≡ true → P (power_at n q))
    → AllByRecursion P (others n mark p b)
unfolding others
all_others P n mark p zero h = tt
all_others P n mark p (suc b) h = all_step P (power_at n b) (others n mark p b) (mark b && not (b == p))
    (λ t. grind (arith, and_parts)) (all_others P n mark p b (λ q l t. h q (omega arith) t))

different_step : (x : ℕ) (xs : List ℕ) (u : Bool) → AllByRecursion (λ z. z ≢ x) xs → AreDifferent xs
    → AreDifferent (cond u (x ∷ xs) xs)
different_step x xs true h r = (h, r)
different_step x xs false h r = r

different_others : (n : ℕ) (mark : ℕ → Bool) (p b : ℕ) → n ≤ 255 → b ≤ n → AreDifferent (others n mark p b)
unfolding others
different_others n mark p zero l r = tt
different_others n mark p (suc b) l r = different_step (power_at n b) (others n mark p b) (mark b && not (b == p))
    (all_others (λ z. z ≢ power_at n b) n mark p b (λ q m t. grind (arith, places_differ)))
    (different_others n mark p b l (omega arith))

-- the highest coefficient first
abbrev turned : List ℕ → List ℕ
turned [] = []
turned (c ∷ cs) = turned cs ++ c ∷ []

low_value_is : (cs : List ℕ) (x : ℕ) → AreBytes cs → low_value cs x ≡ value (turned cs) x
unfolding value
low_value_is [] x b = refl
low_value_is (c ∷ cs) x b =
    ap (λ (y : ℕ). bit_xor c (mul x y)) (low_value_is cs x b.1) ∙ xor_comm c (mul x (value (turned cs) x))
    ∙ ap (λ (y : ℕ). bit_xor y c) (mul_comm x (value (turned cs) x))
    ∙ sym (value_push (turned cs) c x b.0)

length_turned : (cs : List ℕ) → length (turned cs) ≡ length cs
length_turned [] = refl
length_turned (c ∷ cs) = length_push (turned cs) c ∙ add-one (length (turned cs)) ∙ ap suc (length_turned cs)

all_parts : (P : ℕ → Type 0) (xs : List ℕ) (x : ℕ) → AllByRecursion P (xs ++ x ∷ []) → AllByRecursion P xs × P x
all_parts P [] x h = (tt, h.0)
all_parts P (y ∷ ys) x h = let w : (AllByRecursion P ys × P x) = all_parts P ys x h.1 in ((h.0, w.0), w.1)

bytes_turned : (cs : List ℕ) → AreBytes cs → AreBytes (turned cs)
bytes_turned [] b = tt
bytes_turned (c ∷ cs) b = bytes_push (turned cs) c (bytes_turned cs b.1) b.0

zero_turned : (cs : List ℕ) (k : ℕ) → IsZero (turned cs) → get_or cs k 0 ≡ 0
zero_turned [] k z = refl
zero_turned (c ∷ cs) zero z = (all_parts (λ y. y ≡ 0) (turned cs) c z).1
zero_turned (c ∷ cs) (suc k) z = zero_turned cs k (all_parts (λ y. y ≡ 0) (turned cs) c z).0

-- a locator that isn't 0 vanishes at fewer places than it has coefficients
pub few_others : (n p j : ℕ) (locator : List ℕ) → n ≤ 255 → AreBytes locator → get_or locator j 0 ≢ 0
    → length (others n (vanishes_at n locator) p n) < length locator
few_others n p j locator l b h = omega (
  arith,
  length_turned locator,
  fewer_roots (turned locator) (others n (vanishes_at n locator) p n) (bytes_turned locator b)
      (all_others (λ z. z < 256) n (vanishes_at n locator) p n (λ q r t. power_small n q))
      (grind (arith, different_others)) (all_others (λ z. value (turned locator) z ≡ 0) n (vanishes_at n locator) p n
      (λ q r t. grind (arith, low_value_is, eqb-true))) (λ z. h (zero_turned locator j z)),
)
