-- Parts of words: bytes, sums, and the syndromes from the bytes behind the data.
use Rattle.std.proofs.Common.{◌≡◌, ℕ, zero, suc, ◌-◌, ◌<◌, List, ◌∷◌, length, get_or, take, drop, bit_xor, refl, sym}
use Rattle.std.proofs.Common.{ap, ap₂, ◌∙◌, arith, length-drop, []}
use Rattle.std.proofs.lemmas.List.{take-append-drop}
use Rattle.std.specs.Int.Bits.{xor_self, xor_zero_r, xor_comm}
use Rattle.dtx_galois.specs.Field.{mul, pow, value, AreBytes, sums}
use Rattle.dtx_galois.proofs.LinearLemmas.{xor_swap}
use Rattle.dtx_galois.proofs.ValuesLemmas.{value_append, value_sums}
use Rattle.dtx_laws.specs.Codeword.{IsCodeword}

-- the value of a word by its parts
value_parts : (word : List ℕ) (k x : ℕ)
    → value word x ≡ bit_xor (mul (value (take k word) x) (pow x (length (drop k word)))) (value (drop k word) x)
value_parts word k x = ap (λ w. value w x) (sym (take-append-drop k word)) ∙ value_append (take k word) (drop k word) x

-- (h + a) + (h + b) = a + b
same_heads : (h a b : ℕ) → bit_xor (bit_xor h a) (bit_xor h b) ≡ bit_xor a b
same_heads h a b = rw (xor_swap h a h b, xor_self h, xor_comm 0 (bit_xor a b), xor_zero_r (bit_xor a b))

-- where a codeword begins with the word's data, the syndromes are those of the sum of what stands behind
pub syndrome_is : (n k i : ℕ) (word code : List ℕ) → length word ≡ n → IsCodeword n k code → take k code ≡ take k word
    → i < n - k → value (sums (drop k word) (drop k code)) (pow 2 i) ≡ value word (pow 2 i)
syndrome_is n k i word code l c t m =
    let long : length (drop k word) ≡ length (drop k code) = grind (arith, length-drop) in
    value_sums (drop k word) (drop k code) (pow 2 i) long ∙ sym (grind (arith, same_heads))
    ∙ ap₂ bit_xor (sym (value_parts word k (pow 2 i)))
    (ap₂ (λ (h : List ℕ) (m : ℕ). bit_xor (mul (value h (pow 2 i)) (pow (pow 2 i) m)) (value (drop k code) (pow 2 i)))
    (sym t) long ∙ sym (value_parts code k (pow 2 i)) ∙ c.vanishes i m) ∙ xor_zero_r (value word (pow 2 i))

pub sums_at : (xs ys : List ℕ) (i : ℕ) → i < length xs → i < length ys
    → get_or (sums xs ys) i 0 ≡ bit_xor (get_or xs i 0) (get_or ys i 0)
sums_at [] ys i l m = absurd (omega arith)
sums_at (x ∷ xs) [] i l m = absurd (omega arith)
sums_at (x ∷ xs) (y ∷ ys) zero l m = refl
sums_at (x ∷ xs) (y ∷ ys) (suc i) l m = sums_at xs ys i (omega arith) (omega arith)

pub bytes_take : (k : ℕ) (xs : List ℕ) → AreBytes xs → AreBytes (take k xs)
bytes_take zero xs b = tt
bytes_take (suc k) [] b = tt
bytes_take (suc k) (x ∷ xs) b = (b.0, bytes_take k xs b.1)

pub byte_at : (xs : List ℕ) (i : ℕ) → AreBytes xs → get_or xs i 0 < 256
byte_at [] i b = omega arith
byte_at (x ∷ xs) zero b = b.0
byte_at (x ∷ xs) (suc i) b = byte_at xs i b.1
