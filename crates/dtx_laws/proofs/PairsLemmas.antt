-- Two words as pairs of the difference at each place and the power of α there, and the sums that single one of them
-- out.
use Rattle.std.proofs.Common.{◌≡◌, ℕ, zero, suc, ◌+◌, ◌-◌, ◌<◌, List, ◌∷◌, map, length, get_or, bit_xor, refl, sym, ap}
use Rattle.std.proofs.Common.{ap₂, ◌∙◌, arith, []}
use Rattle.std.specs.Int.Bits.{xor_zero_r}
use Rattle.dtx_galois.specs.Field.{mul, pow, value}
use Rattle.dtx_galois.proofs.LinearLemmas.{mul_left, xor_swap}
use Rattle.dtx_galois.proofs.FieldLemmas.{mul_comm, mul_assoc, mul_one, zero_mul, mul_small, pow_small}
use Rattle.dtx_galois.proofs.PowersLemmas.{pow_swap}
use Rattle.dtx_laws.specs.Locator.{weight, without}
use Rattle.dtx_laws.proofs.MomentsLemmas.{moment, cancelled, moment_cancelled, moment_zero, AreZero}

-- the differences of two words at all places, each with the power of 2 there
abbrev pub pairs : List ℕ → List ℕ → List (ℕ × ℕ)
pairs [] ys = []
pairs (x ∷ xs) [] = []
pairs (x ∷ xs) (y ∷ ys) = (bit_xor x y, pow 2 (length xs)) ∷ pairs xs ys

pub moment_pairs : (i : ℕ) (xs ys : List ℕ) → length xs ≡ length ys
    → moment i (pairs xs ys) ≡ bit_xor (value xs (pow 2 i)) (value ys (pow 2 i))
unfolding value
moment_pairs i [] [] l = refl
moment_pairs i [] (y ∷ ys) l = absurd (omega arith)
moment_pairs i (x ∷ xs) [] l = absurd (omega arith)
moment_pairs i (x ∷ xs) (y ∷ ys) l =
    ap₂ bit_xor (grind (arith, pow_swap, mul_left)) (moment_pairs i xs ys (omega arith))
    ∙ xor_swap (mul x (pow (pow 2 i) (length xs))) (mul y (pow (pow 2 i) (length ys))) (value xs (pow 2 i))
    (value ys (pow 2 i))

abbrev weighed : List ℕ → List (ℕ × ℕ) → List (ℕ × ℕ)
weighed ys ps = map (λ p. (mul p.0 (weight p.1 ys), p.1)) ps

weighed_term : (d x y v : ℕ) → mul (mul d v) (bit_xor x y) ≡ mul d (mul (bit_xor x y) v)
weighed_term d x y v = mul_assoc d v (bit_xor x y) ∙ ap (mul d) (mul_comm v (bit_xor x y))

weighed_more : (y : ℕ) (ys : List ℕ) (ps : List (ℕ × ℕ)) → cancelled y (weighed ys ps) ≡ weighed (y ∷ ys) ps
unfolding weight
weighed_more y ys [] = refl
weighed_more y ys (p ∷ ps) =
    ap₂ (λ (d : ℕ) (qs : List (ℕ × ℕ)). (d, p.1) ∷ qs) (weighed_term p.0 p.1 y (weight p.1 ys)) (weighed_more y ys ps)

moment_weighed_none : (i : ℕ) (ps : List (ℕ × ℕ)) → ((p : ℕ × ℕ) → ℕ) → moment i (weighed [] ps) ≡ moment i ps
unfolding weight
moment_weighed_none i [] f = refl
moment_weighed_none i (p ∷ ps) f = ap₂ bit_xor (mul_assoc p.0 1 (pow p.1 i)
    ∙ ap (mul p.0) (mul_one (pow p.1 i) (pow_small p.1 i))) (moment_weighed_none i ps f)

-- cancelling leaves the moments of the weighed pairs
pub without_is : (ys : List ℕ) (s : ℕ → ℕ) (i m : ℕ) (ps : List (ℕ × ℕ)) → ((j : ℕ) → j < m → s j ≡ moment j ps)
    → i + length ys < m → without ys s i ≡ moment i (weighed ys ps)
unfolding without
without_is [] s i m ps h l = h i (omega arith) ∙ sym (moment_weighed_none i ps (λ p. 0))
without_is (y ∷ ys) s i m ps h l = ap₂ (λ (a b : ℕ). bit_xor a (mul y b)) (without_is ys s (suc i) m ps h (omega arith))
    (without_is ys s i m ps h (omega arith))
    ∙ sym (moment_cancelled y i (weighed ys ps)) ∙ ap (moment i) (weighed_more y ys ps)

abbrev by : (ℕ → ℕ) → List (ℕ × ℕ) → List (ℕ × ℕ)
by f ps = map (λ p. (mul p.0 (f p.1), p.1)) ps

-- where the weighed differences are 0 at all places but p, their sum is that at p
all_none : (f : ℕ → ℕ) (xs cs : List ℕ) → length xs ≡ length cs
    → ((q : ℕ) → q < length xs → mul (bit_xor (get_or xs q 0) (get_or cs q 0)) (f (pow 2 (length xs - 1 - q))) ≡ 0)
    → AreZero (by f (pairs xs cs))
all_none f [] cs l h = tt
all_none f (x ∷ xs) [] l h = tt
all_none f (x ∷ xs) (c ∷ cs) l h = (
  ap (λ n. mul (bit_xor x c) (f (pow 2 n))) (last (length xs)) ∙ h 0 (omega arith),
  all_none f xs cs (omega arith) (λ q r. grind (arith, inner)),
)
  where
    last : (n : ℕ) → n ≡ suc n - 1 - 0
    last n = omega arith

    inner : (n p : ℕ) → n - 1 - p ≡ suc n - 1 - suc p
    inner n p = omega arith

pub only : (f : ℕ → ℕ) (xs cs : List ℕ) (p : ℕ) → length xs ≡ length cs → p < length xs
    → ((q : ℕ) → q < length xs → (q ≡ p → ⊥)
    → mul (bit_xor (get_or xs q 0) (get_or cs q 0)) (f (pow 2 (length xs - 1 - q))) ≡ 0)
    → moment 0 (by f (pairs xs cs)) ≡ mul (bit_xor (get_or xs p 0) (get_or cs p 0)) (f (pow 2 (length xs - 1 - p)))
unfolding pow
only f [] cs p l m h = absurd (omega arith)
only f (x ∷ xs) [] p l m h = absurd (omega arith)
only f (x ∷ xs) (c ∷ cs) zero l m h = ap₂ bit_xor (grind (arith, one_last))
    (moment_zero 0 (by f (pairs xs cs)) (all_none f xs cs (omega arith)
    (λ q r. ap (λ n. mul (bit_xor (get_or xs q 0) (get_or cs q 0)) (f (pow 2 n))) (omega arith)
    ∙ h (suc q) (omega arith) (λ e. omega (arith, sym e)))))
    ∙ xor_zero_r (mul (bit_xor x c) (f (pow 2 (suc (length xs) - 1 - 0))))
  where
    one_last : (d v : ℕ) → mul (mul d v) 1 ≡ mul d v
    one_last d v = mul_comm (mul d v) 1 ∙ mul_one (mul d v) (mul_small d v)
only f (x ∷ xs) (c ∷ cs) (suc p) l m h = ap₂ bit_xor
    (ap (λ (y : ℕ). mul y 1) (ap (λ n. mul (bit_xor x c) (f (pow 2 n))) (omega arith)
    ∙ h 0 (omega arith) (λ e. omega arith)) ∙ zero_mul 1) (only f xs cs p (omega arith) (omega arith)
    (λ q r d. ap (λ n. mul (bit_xor (get_or xs q 0) (get_or cs q 0)) (f (pow 2 n))) (omega arith)
    ∙ h (suc q) (omega arith) (λ e. d (omega arith))))
    ∙ ap (λ n. mul (bit_xor (get_or xs p 0) (get_or cs p 0)) (f (pow 2 n))) (omega arith)
