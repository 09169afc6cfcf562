-- A polynomial that is not 0 has fewer zeros than coefficients.
use Rattle.std.proofs.Common.{◌≡◌, ◌≢◌, ℕ, suc, ◌<◌, ◌≤◌, List, [], ◌∷◌, length, bit_xor, refl, sym, ap, ap₂, ◌∙◌}
use Rattle.std.proofs.Common.{arith}
use Rattle.std.proofs.lemmas.Bool.{cases_lt}
use Rattle.std.specs.List.{AllByRecursion}
use Rattle.std.specs.Int.Bits.{xor_assoc, xor_self, xor_zero_r, xor_lt}
use Rattle.dtx_galois.specs.Field.{mul, pow, value, AreBytes, AreDifferent, IsZero, VanishesAt}
use Rattle.dtx_galois.proofs.LinearLemmas.{mul_left, mul_right}
use Rattle.dtx_galois.proofs.FieldLemmas.{mul_comm, mul_assoc, mul_one, mul_zero, zero_mul, mul_small, xor_zero}
use Rattle.dtx_galois.proofs.FieldLemmas.{no_divisors, mul_swap}
use Rattle.dtx_galois.proofs.ValuesLemmas.{value_small}

-- Horner's values at r from a on, without the last, and the last
abbrev pub quotient : ℕ → ℕ → List ℕ → List ℕ
quotient r a [] = []
quotient r a (c ∷ cs) = a ∷ quotient r (bit_xor (mul a r) c) cs

abbrev pub last_value : ℕ → ℕ → List ℕ → ℕ
last_value r a [] = a
last_value r a (c ∷ cs) = last_value r (bit_xor (mul a r) c) cs

length_quotient : (r a : ℕ) (cs : List ℕ) → length (quotient r a cs) ≡ length cs
length_quotient r a [] = refl
length_quotient r a (c ∷ cs) = ap suc (length_quotient r (bit_xor (mul a r) c) cs)

-- (a, c₁, ..) = (x - r) * quotient + last
divides : (r a : ℕ) (cs : List ℕ) (x : ℕ) → bit_xor (mul a (pow x (length cs))) (value cs x)
    ≡ bit_xor (mul (bit_xor x r) (value (quotient r a cs) x)) (mul (last_value r a cs) 1)
unfolding value pow
divides r a [] x = xor_zero_r (mul a 1) ∙ sym (ap (λ y. bit_xor y (mul a 1)) (mul_zero (bit_xor x r)))
divides r a (c ∷ cs) x =
    let n : length (quotient r (bit_xor (mul a r) c) cs) ≡ length cs = length_quotient r (bit_xor (mul a r) c) cs in
    regroup a r c x (pow x (length cs)) (value cs x)
    ∙ ap (bit_xor (mul (bit_xor x r) (mul a (pow x (length cs))))) (divides r (bit_xor (mul a r) c) cs x)
    ∙ sym (xor_assoc (mul (bit_xor x r) (mul a (pow x (length cs))))
    (mul (bit_xor x r) (value (quotient r (bit_xor (mul a r) c) cs) x)) (mul (last_value r (bit_xor (mul a r) c) cs) 1))
    ∙ ap (λ y. bit_xor y (mul (last_value r (bit_xor (mul a r) c) cs) 1)) (grind (arith, mul_right))
  where
    -- a x p + (c p + v) = (x + r) a p + ((a r + c) p + v)
    regroup : (a r c x p v : ℕ) → bit_xor (mul a (mul x p)) (bit_xor (mul c p) v)
        ≡ bit_xor (mul (bit_xor x r) (mul a p)) (bit_xor (mul (bit_xor (mul a r) c) p) v)
    regroup a r c x p v =
        let e : mul (bit_xor x r) (mul a p) ≡ bit_xor (mul a (mul x p)) (mul r (mul a p)) = simp (mul_left, mul_swap) in
        let f : mul (bit_xor (mul a r) c) p ≡ bit_xor (mul r (mul a p)) (mul c p) =
        mul_left (mul a r) c p ∙ ap (λ y. bit_xor y (mul c p)) (mul_assoc a r p ∙ mul_swap a r p) in
        sym (ap₂ bit_xor e (ap (λ y. bit_xor y v) f ∙ xor_assoc (mul r (mul a p)) (mul c p) v)
        ∙ xor_assoc (mul a (mul x p)) (mul r (mul a p)) (bit_xor (mul r (mul a p)) (bit_xor (mul c p) v))
        ∙ ap (bit_xor (mul a (mul x p))) (sym (xor_assoc (mul r (mul a p)) (mul r (mul a p)) (bit_xor (mul c p) v))
        ∙ ap (λ y. bit_xor y (bit_xor (mul c p) v)) (xor_self (mul r (mul a p)))))

-- a quotient and a rest that are 0 come of 0 alone
zero_from_quotient : (r a : ℕ) (cs : List ℕ) → IsZero (quotient r a cs) → last_value r a cs ≡ 0 → (a ≡ 0) × IsZero cs
zero_from_quotient r a [] z e = (e, tt)
zero_from_quotient r a (c ∷ cs) z e =
    let w : (bit_xor (mul a r) c ≡ 0) × IsZero cs = zero_from_quotient r (bit_xor (mul a r) c) cs z.1 e in
    (z.0, (sym (ap (λ y. bit_xor y c) (ap (λ y. mul y r) z.0 ∙ zero_mul r)) ∙ w.0, w.1))

bytes_quotient : (r a : ℕ) (cs : List ℕ) → a < 256 → AreBytes cs → AreBytes (quotient r a cs)
bytes_quotient r a [] l b = tt
bytes_quotient r a (c ∷ cs) l b =
    (l, bytes_quotient r (bit_xor (mul a r) c) cs (xor_lt 8 (mul a r) c (mul_small a r) b.0) b.1)

last_small : (r a : ℕ) (cs : List ℕ) → a < 256 → AreBytes cs → last_value r a cs < 256
last_small r a [] l b = l
last_small r a (c ∷ cs) l b = last_small r (bit_xor (mul a r) c) cs (xor_lt 8 (mul a r) c (mul_small a r) b.0) b.1

-- none of them is r
abbrev Lacks : ℕ → List ℕ → Type 0
Lacks r xs = AllByRecursion (λ x. x ≢ r) xs

last_is : (r a : ℕ) (cs : List ℕ) → value (a ∷ cs) r ≡ mul (last_value r a cs) 1
unfolding value
last_is r a cs = rw (divides r a cs r, xor_self r, zero_mul (value (quotient r a cs) r))

roots_of_quotient : (r a : ℕ) (cs xs : List ℕ) → r < 256 → a < 256 → AreBytes cs → AreBytes xs → last_value r a cs ≡ 0
    → Lacks r xs → VanishesAt (a ∷ cs) xs → VanishesAt (quotient r a cs) xs
roots_of_quotient r a cs [] lr la b bx e h z = tt
roots_of_quotient r a cs (x ∷ xs) lr la b bx e h z = (
  no_divisors (value (quotient r a cs) x) (bit_xor x r) (value_small (quotient r a cs) x) (xor_lt 8 x r bx.0 lr)
      (λ d. h.0 (xor_zero x r d)) (mul_comm (value (quotient r a cs) x) (bit_xor x r)
      ∙ sym (xor_zero_r (mul (bit_xor x r) (value (quotient r a cs) x)))
      ∙ ap (bit_xor (mul (bit_xor x r) (value (quotient r a cs) x))) (sym (ap (λ y. mul y 1) e ∙ zero_mul 1))
      ∙ sym (divides_value r a cs x) ∙ z.0),
  roots_of_quotient r a cs xs lr la b bx.1 e h.1 z.1,
)
  where
    divides_value : (r a : ℕ) (cs : List ℕ) (x : ℕ)
        → value (a ∷ cs) x ≡ bit_xor (mul (bit_xor x r) (value (quotient r a cs) x)) (mul (last_value r a cs) 1)
    divides_value r a cs x = unfold value in divides r a cs x

-- at least as many zeros as coefficients: each coefficient is 0
pub few_roots : (xs cs : List ℕ) → AreBytes cs → AreBytes xs → AreDifferent xs → VanishesAt cs xs
    → length cs ≤ length xs → IsZero cs
few_roots xs [] b bx a z l = tt
few_roots [] (c ∷ cs) b bx a z l = absurd (omega arith)
few_roots (r ∷ xs) (c ∷ cs) b bx a z l =
    let e : last_value r c cs ≡ 0 = sym (grind (arith, mul_comm, mul_one, last_small)) ∙ sym (last_is r c cs) ∙ z.0 in
    zero_from_quotient r c cs (few_roots xs (quotient r c cs) (bytes_quotient r c cs b.0 b.1) bx.1 a.1
    (roots_of_quotient r c cs xs bx.0 b.0 b.1 bx.1 e a.0 z.1) (omega (arith, length_quotient r c cs))) e

-- so a polynomial that is not 0 has fewer zeros than coefficients
pub fewer_roots : (cs xs : List ℕ) → AreBytes cs → AreBytes xs → AreDifferent xs → VanishesAt cs xs → (IsZero cs → ⊥)
    → length xs < length cs
fewer_roots cs xs b bx a z h = grind (arith, cases_lt, few_roots)
