-- Values of polynomials over the field.
use Rattle.std.proofs.Common.{◌≡◌, ℕ, zero, suc, ◌+◌, ◌<◌, List, [], ◌∷◌, ◌++◌, length, take, get_or, replicate}
use Rattle.std.proofs.Common.{bit_xor, refl, sym, ap, ap₂, ◌∙◌, arith, add-one}
use Rattle.std.specs.Int.Bits.{xor_assoc, xor_zero_r, xor_lt}
use Rattle.std.proofs.lemmas.List.{length_push, take_more, length-append}
use Rattle.dtx_galois.specs.Field.{mul, pow, value, sums, scaled}
use Rattle.dtx_galois.proofs.LinearLemmas.{mul_left, mul_right, xor_swap}
use Rattle.dtx_galois.proofs.FieldLemmas.{mul_comm, mul_assoc, mul_one, mul_zero, zero_mul, mul_small}
use Rattle.dtx_galois.proofs.PowersLemmas.{pow_add}
use Rattle.dtx_galois.proofs.WordsLemmas.{length_sums, length_scaled}

-- one factor more, on the other side
pub times_power : (c x n : ℕ) → mul (mul c (pow x n)) x ≡ mul c (pow x (suc n))
unfolding pow
times_power c x n = mul_assoc c (pow x n) x ∙ ap (mul c) (mul_comm (pow x n) x)

-- Horner's step
pub value_push : (cs : List ℕ) (c x : ℕ) → c < 256 → value (cs ++ c ∷ []) x ≡ bit_xor (mul (value cs x) x) c
unfolding value pow
value_push [] c x l = rw (mul_comm c 1, mul_one c l, xor_zero_r c, zero_mul x)
value_push (d ∷ cs) c x l = ap₂ bit_xor (ap (λ n. mul d (pow x n)) (length_push cs c ∙ add-one (length cs))
    ∙ sym (times_power d x (length cs))) (value_push cs c x l)
    ∙ sym (xor_assoc (mul (mul d (pow x (length cs))) x) (mul (value cs x) x) c)
    ∙ ap (λ (y : ℕ). bit_xor y c) (sym (mul_left (mul d (pow x (length cs))) (value cs x) x))

pub value_more : (cs : List ℕ) (i x : ℕ) → i < length cs → get_or cs i 0 < 256
    → value (take (i + 1) cs) x ≡ bit_xor (mul (value (take i cs) x) x) (get_or cs i 0)
value_more cs i x l b = ap (λ ds. value ds x) (take_more cs i 0 l) ∙ value_push (take i cs) (get_or cs i 0) x b

pub value_small : (cs : List ℕ) (x : ℕ) → value cs x < 256
unfolding value
value_small [] x = omega arith
value_small (c ∷ cs) x =
    xor_lt 8 (mul c (pow x (length cs))) (value cs x) (mul_small c (pow x (length cs))) (value_small cs x)

pub value_sums : (xs ys : List ℕ) (x : ℕ) → length xs ≡ length ys
    → value (sums xs ys) x ≡ bit_xor (value xs x) (value ys x)
unfolding value
value_sums [] [] x l = refl
value_sums [] (b ∷ bs) x l = absurd (omega arith)
value_sums (a ∷ as') [] x l = absurd (omega arith)
value_sums (a ∷ as') (b ∷ bs) x l =
    ap₂ bit_xor (grind (arith, length_sums, mul_left)) (value_sums as' bs x (omega arith))
    ∙ xor_swap (mul a (pow x (length as'))) (mul b (pow x (length bs))) (value as' x) (value bs x)

pub value_scaled : (f : ℕ) (xs : List ℕ) (x : ℕ) → value (scaled f xs) x ≡ mul f (value xs x)
unfolding value
value_scaled f [] x = sym (mul_zero f)
value_scaled f (c ∷ cs) x = ap₂ bit_xor (ap (λ n. mul (mul f c) (pow x n)) (length_scaled f cs)
    ∙ mul_assoc f c (pow x (length cs))) (value_scaled f cs x) ∙ sym (grind (arith, mul_right))

pub value_shifted : (xs : List ℕ) (x : ℕ) → value (xs ++ 0 ∷ []) x ≡ mul (value xs x) x
value_shifted xs x = value_push xs 0 x (omega arith) ∙ xor_zero_r (mul (value xs x) x)

pub value_append : (xs ys : List ℕ) (x : ℕ)
    → value (xs ++ ys) x ≡ bit_xor (mul (value xs x) (pow x (length ys))) (value ys x)
unfolding value
value_append [] ys x = ap (λ y. bit_xor y (value ys x)) (sym (zero_mul (pow x (length ys))))
value_append (c ∷ cs) ys x = ap₂ bit_xor
    (ap (λ n. mul c (pow x n)) (length-append cs ys) ∙ ap (mul c) (pow_add x (length cs) (length ys))
    ∙ sym (mul_assoc c (pow x (length cs)) (pow x (length ys)))) (value_append cs ys x)
    ∙ sym (xor_assoc (mul (mul c (pow x (length cs))) (pow x (length ys))) (mul (value cs x) (pow x (length ys)))
    (value ys x)) ∙ ap (λ y. bit_xor y (value ys x)) (sym (grind (arith, mul_left)))

pub value_zeros : (n x : ℕ) → value (replicate n 0) x ≡ 0
unfolding value
value_zeros zero x = refl
value_zeros (suc n) x = ap₂ bit_xor (zero_mul (pow x (length (replicate n 0)))) (value_zeros n x)
