-- A codeword for each data, by a register that divides by the generator.
use Rattle.std.proofs.Common.{[], ◌≡◌, ℕ, zero, suc, ◌+◌, ◌-◌, ◌<◌, ◌⊎◌, List, ◌∷◌, ◌++◌, length, take, replicate}
use Rattle.std.proofs.Common.{bit_xor, refl, sym, ap, ap₂, ◌∙◌, arith, inl, inr, add-one}
use Rattle.std.proofs.lemmas.List.{length-append, length_push, append_assoc, append-nil, take_at, length-replicate}
use Rattle.std.specs.Int.Bits.{xor_comm, xor_assoc, xor_self}
use Rattle.dtx_galois.specs.Field.{mul, pow, value, AreBytes, scaled}
use Rattle.dtx_galois.proofs.LinearLemmas.{mul_left, mul_right}
use Rattle.dtx_galois.proofs.FieldLemmas.{mul_comm, mul_assoc, mul_zero, zero_mul, xor_zero}
use Rattle.dtx_galois.proofs.ValuesLemmas.{value_push, value_append, value_sums, value_scaled, value_shifted}
use Rattle.dtx_galois.proofs.ValuesLemmas.{value_zeros, times_power}
use Rattle.dtx_galois.proofs.WordsLemmas.{length_sums, bytes_sums, length_scaled, bytes_scaled}
use Rattle.dtx_galois.proofs.BytesLemmas.{bytes_append, bytes_zeros, bytes_push}
use Rattle.dtx_laws.specs.Codeword.{IsCodeword}
use Rattle.dtx_laws.specs.Register.{generator, fed, register}

-- ---- the generator x ^ m + .., without its highest coefficient, which is 1

pub length_generator : (m : ℕ) → length (generator m) ≡ m
length_generator zero = refl
length_generator (suc m) = length_sums (generator m ++ 0 ∷ []) (pow 2 m ∷ scaled (pow 2 m) (generator m))
    ∙ length_push (generator m) 0 ∙ ap (λ n. n + 1) (length_generator m) ∙ add-one m

-- its value is the earlier one's times x - 2 ^ m
pub value_generator : (m x : ℕ) → bit_xor (pow x (suc m)) (value (generator (suc m)) x)
    ≡ mul (bit_xor x (pow 2 m)) (bit_xor (pow x m) (value (generator m) x))
unfolding pow value
value_generator m x = ap (bit_xor (pow x (suc m)))
    (value_sums (generator m ++ 0 ∷ []) (pow 2 m ∷ scaled (pow 2 m) (generator m)) x (length_push (generator m) 0
    ∙ add-one (length (generator m)) ∙ ap suc (sym (length_scaled (pow 2 m) (generator m))))
    ∙ ap₂ bit_xor (value_shifted (generator m) x ∙ mul_comm (value (generator m) x) x)
    (grind (arith, length_scaled, length_generator, value_scaled, mul_right)))
    ∙ sym (xor_assoc (mul x (pow x m)) (mul x (value (generator m) x))
    (mul (pow 2 m) (bit_xor (pow x m) (value (generator m) x))))
    ∙ ap (λ y. bit_xor y (mul (pow 2 m) (bit_xor (pow x m) (value (generator m) x)))) (sym (grind (arith, mul_right)))
    ∙ sym (mul_left x (pow 2 m) (bit_xor (pow x m) (value (generator m) x)))

root_cases : (m i : ℕ) → i < suc m → (i ≡ m) ⊎ (i < m)
root_cases m i l = grind arith

root_of : (m i : ℕ) → (i ≡ m) ⊎ (i < m) → (i < m → bit_xor (pow (pow 2 i) m) (value (generator m) (pow 2 i)) ≡ 0)
    → mul (bit_xor (pow 2 i) (pow 2 m)) (bit_xor (pow (pow 2 i) m) (value (generator m) (pow 2 i))) ≡ 0
root_of m i (inl e) h = simp (e, xor_self, zero_mul)
root_of m i (inr l) h = ap (mul (bit_xor (pow 2 i) (pow 2 m))) (h l) ∙ mul_zero (bit_xor (pow 2 i) (pow 2 m))

pub generator_root : (m i : ℕ) → i < m → bit_xor (pow (pow 2 i) m) (value (generator m) (pow 2 i)) ≡ 0
generator_root zero i l = absurd (omega arith)
generator_root (suc m) i l = value_generator m (pow 2 i) ∙ root_of m i (root_cases m i l) (generator_root m i)

-- ---- the register

pub length_fed : (g rs : List ℕ) (b : ℕ) → length (fed g rs b) ≡ length rs
length_fed g [] b = refl
length_fed g (r ∷ rs) b = length_sums (rs ++ 0 ∷ []) (scaled (bit_xor b r) g) ∙ length_push rs 0 ∙ add-one (length rs)

bytes_fed : (g rs : List ℕ) (b : ℕ) → AreBytes rs → AreBytes (fed g rs b)
bytes_fed g [] b h = tt
bytes_fed g (r ∷ rs) b h = grind (arith, bytes_sums, bytes_push, bytes_scaled)

fed_term : (v b r x p : ℕ) → bit_xor (mul v x) (mul (bit_xor b r) p) ≡ bit_xor (bit_xor (mul r p) (mul v x)) (mul b p)
fed_term v b r x p = ap (bit_xor (mul v x)) (mul_left b r p ∙ xor_comm (mul b p) (mul r p))
    ∙ sym (xor_assoc (mul v x) (mul r p) (mul b p)) ∙ ap (λ y. bit_xor y (mul b p)) (xor_comm (mul v x) (mul r p))

-- at a root, what is fed counts at x ^ m
pub value_fed : (g rs : List ℕ) (b x : ℕ) → length rs ≡ length g → 0 < length rs
    → bit_xor (pow x (length g)) (value g x) ≡ 0
    → value (fed g rs b) x ≡ bit_xor (mul (value rs x) x) (mul b (pow x (length g)))
unfolding value
value_fed g [] b x l p e = absurd (omega arith)
value_fed g (r ∷ rs) b x l p e =
    let q : pow x (length g) ≡ value g x = xor_zero (pow x (length g)) (value g x) e in
    value_sums (rs ++ 0 ∷ []) (scaled (bit_xor b r) g) x (grind (arith, length_push, add-one, length_scaled))
    ∙ ap₂ bit_xor (value_shifted rs x) (value_scaled (bit_xor b r) g x ∙ ap (mul (bit_xor b r)) (sym q))
    ∙ fed_term (value rs x) b r x (pow x (length g)) ∙ ap (λ y. bit_xor y (mul b (pow x (length g))))
    (grind (arith, times_power, mul_left))

pub length_register : (g rs bs : List ℕ) → length (register g rs bs) ≡ length rs
length_register g rs [] = refl
length_register g rs (b ∷ bs) = length_register g (fed g rs b) bs ∙ length_fed g rs b

pub bytes_register : (g rs bs : List ℕ) → AreBytes rs → AreBytes (register g rs bs)
bytes_register g rs [] h = h
bytes_register g rs (b ∷ bs) h = bytes_register g (fed g rs b) bs (bytes_fed g rs b h)

-- the value of joined lists at a root, the register and what was fed before have one value
pub value_register : (g rs bs done : List ℕ) (x : ℕ) → length rs ≡ length g → 0 < length rs → AreBytes bs
    → bit_xor (pow x (length g)) (value g x) ≡ 0 → value rs x ≡ mul (value done x) (pow x (length g))
    → value (register g rs bs) x ≡ mul (value (done ++ bs) x) (pow x (length g))
value_register g rs [] done x l p h e i = i ∙ ap (λ ds. mul (value ds x) (pow x (length g))) (sym (append-nil done))
value_register g rs (b ∷ bs) done x l p h e i =
    value_register g (fed g rs b) bs (done ++ b ∷ []) x (length_fed g rs b ∙ l) (omega (arith, length_fed g rs b)) h.1 e
    (grind (arith, value_fed, mul_assoc, mul_comm, mul_left, value_push))
    ∙ ap (λ ds. mul (value ds x) (pow x (length g))) (append_assoc done (b ∷ []) bs)

pub nothing : (x y : ℕ) → mul (value [] x) y ≡ 0
unfolding value
nothing x y = zero_mul y

-- the data and then the register
abbrev pub encoded : ℕ → List ℕ → List ℕ
encoded m data' = data' ++ register (generator m) (replicate m 0) data'

pub encoded_is : (n k : ℕ) (bs : List ℕ) → k < n → length bs ≡ k → AreBytes bs → IsCodeword n k (encoded (n - k) bs)
encoded_is n k bs l e b = record {
  long = length-append bs (register (generator (n - k)) (replicate (n - k) 0) bs)
      ∙ omega (arith, length_register (generator (n - k)) (replicate (n - k) 0) bs, length-replicate {A = ℕ} (n - k) 0);
  bytes = bytes_append bs (register (generator (n - k)) (replicate (n - k) 0) bs) b
      (bytes_register (generator (n - k)) (replicate (n - k) 0) bs (bytes_zeros (n - k)));
  vanishes = λ i r. vanish (n - k) bs b i r (omega arith);
}
  where
    vanish : (m : ℕ) (bs : List ℕ) → AreBytes bs → (i : ℕ) → i < m → 0 < m → value (encoded m bs) (pow 2 i) ≡ 0
    vanish m bs b i r p =
        let x : ℕ = pow 2 i in
        let lg = length_generator m in
        value_append bs (register (generator m) (replicate m 0) bs) (pow 2 i) ∙ ap₂ bit_xor
        (ap (λ j. mul (value bs (pow 2 i)) (pow (pow 2 i) j)) (grind (arith, length_register, length-replicate)))
        (value_register (generator m) (replicate m 0) bs [] (pow 2 i) (length-replicate {A = ℕ} m 0
        ∙ sym lg) (omega (arith, length-replicate {A = ℕ} m 0)) b (grind (arith, generator_root))
        (value_zeros m (pow 2 i) ∙ sym (nothing (pow 2 i) (pow (pow 2 i) (length (generator m))))))
        ∙ xor_self (mul (value bs (pow 2 i)) (pow (pow 2 i) (length (generator m))))

pub some_codeword : (n k : ℕ) (bs : List ℕ) → k < n → length bs ≡ k → AreBytes bs
    → (c : List ℕ) × IsCodeword n k c × (take k c ≡ bs)
some_codeword n k bs l e b = (
  encoded (n - k) bs,
  encoded_is n k bs l e b,
  take_at bs (register (generator (n - k)) (replicate (n - k) 0) bs) k e,
)
