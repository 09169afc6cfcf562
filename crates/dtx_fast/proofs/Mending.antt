-- A word of which one byte is changed: its values, and in how many places it differs from another word.
use Rattle.std.proofs.Common.{◌≡◌, ◌≢◌, ℕ, zero, suc, ◌+◌, ◌-◌, ◌*◌, ◌<◌, ◌≤◌, List, [], ◌∷◌, length, get_or, set}
use Rattle.std.proofs.Common.{bit_xor, refl, sym, ap, ap₂, ◌∙◌, arith}
use Rattle.std.proofs.lemmas.List.{get_or-set_other, length-set}
use Rattle.std.proofs.lemmas.Bool.{eq-eqb, ne_eqb}
use Rattle.std.specs.Int.Bits.{xor_assoc, xor_self, xor_comm, xor_zero_r, xor_lt}
use Rattle.dtx_galois.specs.Field.{mul, pow, value, AreBytes}
use Rattle.dtx_galois.proofs.FieldLemmas.{pow_small}
use Rattle.dtx_galois.proofs.LinearLemmas.{mul_left}
use Rattle.dtx_galois.proofs.PowersLemmas.{pow_add, pow_times}
use Rattle.dtx_laws.specs.Codeword.{IsCode, distance}
use Rattle.dtx_laws.specs.Words.{IsCorrected}
use Rattle.dtx_laws.proofs.PartsLemmas.{byte_at}
use Rattle.dtx_laws.proofs.WordsLemmas.{distance_self}
use Rattle.dtx_fast.proofs.RepairLemmas.{powers_not_zero, two_inverse}

-- the word with an error taken away: α to the error added to the byte whose power has the exponent e
abbrev pub mended : ℕ → ℕ → List ℕ → List ℕ
mended x e word = set word (length word - 1 - e) (bit_xor (get_or word (length word - 1 - e) 0) (pow 2 x))

value_set : (word : List ℕ) (p v x : ℕ) → p < length word → value (set word p (bit_xor (get_or word p 0) v)) x
    ≡ bit_xor (value word x) (mul v (pow x (length word - 1 - p)))
unfolding value
value_set [] p v x l = absurd (omega arith)
value_set (c ∷ cs) zero v x l = ap (λ (u : ℕ). bit_xor u (value cs x)) (mul_left c v (pow x (length cs)))
    ∙ swapped (mul c (pow x (length cs))) (mul v (pow x (length cs))) (value cs x)
    ∙ ap (λ n. bit_xor (bit_xor (mul c (pow x (length cs))) (value cs x)) (mul v (pow x n))) (omega arith)
  where
    swapped : (a b w : ℕ) → bit_xor (bit_xor a b) w ≡ bit_xor (bit_xor a w) b
    swapped a b w = xor_assoc a b w ∙ ap (bit_xor a) (xor_comm b w) ∙ sym (xor_assoc a w b)
value_set (c ∷ cs) (suc p) v x l =
    ap₂ (λ (n u : ℕ). bit_xor (mul c (pow x n)) u) (length-set cs p (bit_xor (get_or cs p 0) v))
    (value_set cs p v x (omega arith))
    ∙ sym (xor_assoc (mul c (pow x (length cs))) (value cs x) (mul v (pow x (length cs - 1 - p))))
    ∙ ap (λ n. bit_xor (bit_xor (mul c (pow x (length cs))) (value cs x)) (mul v (pow x n))) (omega arith)

-- what the error adds to a value
error_term : (x e i : ℕ) → mul (pow 2 x) (pow (pow 2 i) e) ≡ pow 2 (x + e * i)
error_term x e i = grind (arith, pow_times, pow_add)

pub value_mended : (x e i : ℕ) (word : List ℕ) → e < length word
    → value (mended x e word) (pow 2 i) ≡ bit_xor (value word (pow 2 i)) (pow 2 (x + e * i))
value_mended x e i word l = grind (arith, value_set, error_term)

distance_set : (word now : List ℕ) (p x : ℕ) → length now ≡ length word → p < length word
    → get_or now p 0 ≡ get_or word p 0 → get_or word p 0 ≢ x → distance word (set now p x) ≡ distance word now + 1
distance_set [] now p x l m e d = absurd (omega arith)
distance_set (w ∷ ws) [] p x l m e d = absurd (omega arith)
distance_set (w ∷ ws) (y ∷ ys) zero x l m e d = grind (arith, ne_eqb, eq-eqb)
distance_set (w ∷ ws) (y ∷ ys) (suc p) x l m e d = omega (arith, distance_set ws ys p x (omega arith) (omega arith) e d)

bytes_set : (xs : List ℕ) (p x : ℕ) → AreBytes xs → x < 256 → AreBytes (set xs p x)
bytes_set [] p x b l = tt
bytes_set (y ∷ ys) zero x b l = (l, b.1)
bytes_set (y ∷ ys) (suc p) x b l = (b.0, bytes_set ys p x b.1 l)

pub bytes_mended : (x e : ℕ) (word : List ℕ) → AreBytes word → AreBytes (mended x e word)
bytes_mended x e word b =
    bytes_set word (length word - 1 - e) (bit_xor (get_or word (length word - 1 - e) 0) (pow 2 x)) b
    (xor_lt 8 (get_or word (length word - 1 - e) 0) (pow 2 x) (byte_at word (length word - 1 - e) b) (pow_small 2 x))

-- an error isn't 0, so the byte is another
changed : (a x : ℕ) → a ≢ bit_xor a (pow 2 x)
changed a x e = powers_not_zero 2 (pow 2 254) x two_inverse
    (sym (ap (λ (z : ℕ). bit_xor z (pow 2 x)) (xor_self a) ∙ xor_comm 0 (pow 2 x) ∙ xor_zero_r (pow 2 x))
    ∙ xor_assoc a a (pow 2 x) ∙ ap (bit_xor a) (sym e) ∙ xor_self a)

-- where no syndrome is left and so many bytes were changed, the word is right
corrected : (n k e : ℕ) (word now : List ℕ) → length now ≡ n → AreBytes now
    → ((i : ℕ) → i < n - k → value now (pow 2 i) ≡ 0) → distance word now ≡ e → 2 * e ≤ n - k
    → IsCorrected n k word now e
corrected n k e word now l b v d m = grind (arith, changed)

length_mended : (x e : ℕ) (word : List ℕ) → length (mended x e word) ≡ length word
length_mended x e word = length-set word (length word - 1 - e) (bit_xor (get_or word (length word - 1 - e) 0) (pow 2 x))

-- one more place at which the words differ
distance_mended : (x e : ℕ) (word now : List ℕ) → length now ≡ length word → e < length word
    → get_or now (length now - 1 - e) 0 ≡ get_or word (length now - 1 - e) 0
    → distance word (mended x e now) ≡ distance word now + 1
distance_mended x e word now l m same = grind (arith, distance_set, changed)

-- a word of which d bytes were changed, and one more by which no syndrome is left: it is right
last_mended : (n k d x e : ℕ) (word now : List ℕ) → length word ≡ n → length now ≡ n → AreBytes now → e < n
    → get_or now (n - 1 - e) 0 ≡ get_or word (n - 1 - e) 0 → distance word now ≡ d → 2 * (d + 1) ≤ n - k
    → ((i : ℕ) → i < n - k → value now (pow 2 i) ≡ pow 2 (x + e * i)) → IsCorrected n k word (mended x e now) (d + 1)
last_mended n k d x e word now long l b m same apart few v =
    let far : distance word (mended x e now) ≡ distance word now + 1 = grind (arith, distance_mended) in
    corrected n k (d + 1) word (mended x e now) (length_mended x e now ∙ l) (bytes_mended x e now b)
    (λ i r. rw (value_mended x e i now (omega arith), v i r, xor_self (pow 2 (x + e * i)))) (omega (arith, far)) few

-- another place is as it was
other_place : (x e f : ℕ) (word : List ℕ) → e < length word → f < length word → e ≢ f
    → get_or (mended x e word) (length word - 1 - f) 0 ≡ get_or word (length word - 1 - f) 0
other_place x e f word l m d = grind (arith, get_or-set_other)

-- the first of two terms is taken away
one_left : (a b : ℕ) → bit_xor (bit_xor a b) a ≡ b
one_left a b = rw (xor_comm (bit_xor a b) a, ← xor_assoc a a b, xor_self a, xor_comm 0 b, xor_zero_r b)

-- where the syndromes are those of one error, without it the word is right
pub one_mended : (k x e : ℕ) (word : List ℕ) (s : ℕ → ℕ) → IsCode (length word) k → AreBytes word → e < length word
    → ((i : ℕ) → i < length word - k → s i ≡ value word (pow 2 i))
    → ((i : ℕ) → i < length word - k → s i ≡ pow 2 (x + e * i)) → IsCorrected (length word) k word (mended x e word) 1
one_mended k x e word s code b l v h =
    last_mended (length word) k 0 x e word word refl refl b l refl (distance_self word)
    (omega (arith, code.longer, code.even)) (λ i m. sym (v i m) ∙ h i m)

-- where they are those of two, without both
pub two_mended : (k x e y f : ℕ) (word : List ℕ) (s : ℕ → ℕ) → AreBytes word → e < length word → f < length word
    → e ≢ f → 4 ≤ length word - k → ((i : ℕ) → i < length word - k → s i ≡ value word (pow 2 i))
    → ((i : ℕ) → i < length word - k → s i ≡ bit_xor (pow 2 (x + e * i)) (pow 2 (y + f * i)))
    → IsCorrected (length word) k word (mended y f (mended x e word)) 2
two_mended k x e y f word s b l m d four v h =
    last_mended (length word) k 1 y f word (mended x e word) refl (length_mended x e word) (bytes_mended x e word b) m
    (other_place x e f word l m d) (distance_mended x e word word refl l refl ∙ ap (λ j. j + 1) (distance_self word))
    (omega arith) (λ i r. grind (arith, value_mended, one_left))

-- where they are those of three, without all
pub three_mended : (k x e y f z g : ℕ) (word : List ℕ) (s : ℕ → ℕ) → AreBytes word → e < length word → f < length word
    → g < length word → e ≢ f → e ≢ g → f ≢ g → 6 ≤ length word - k
    → ((i : ℕ) → i < length word - k → s i ≡ value word (pow 2 i)) → ((i : ℕ) → i < length word - k
    → s i ≡ bit_xor (bit_xor (pow 2 (x + e * i)) (pow 2 (y + f * i))) (pow 2 (z + g * i)))
    → IsCorrected (length word) k word (mended z g (mended y f (mended x e word))) 3
three_mended k x e y f z g word s b l m o d p q six v h =
    let n : ℕ = length word in
    let one : List ℕ = mended x e word in
    let long : length (mended x e word) ≡ length word = length_mended x e word in
    let place : (j : ℕ) → length (mended x e word) - 1 - j ≡ length word - 1 - j = λ j. ap (λ w. w - 1 - j) long in
    last_mended (length word) k 2 z g word (mended y f (mended x e word)) refl
    (length_mended y f (mended x e word) ∙ long) (bytes_mended y f (mended x e word) (bytes_mended x e word b)) o
    (grind (arith, other_place)) (grind (arith, distance_mended, other_place, distance_self)) (omega arith)
    (λ i r. value_mended y f i (mended x e word) (omega arith) ∙ ap (λ (w : ℕ). bit_xor w (pow 2 (y + f * i)))
    (value_mended x e i word l ∙ ap (λ (w : ℕ). bit_xor w (pow 2 (x + e * i)))
    (sym (v i r) ∙ h i r ∙ xor_assoc (pow 2 (x + e * i)) (pow 2 (y + f * i)) (pow 2 (z + g * i)))
    ∙ one_left (pow 2 (x + e * i)) (bit_xor (pow 2 (y + f * i)) (pow 2 (z + g * i))))
    ∙ one_left (pow 2 (y + f * i)) (pow 2 (z + g * i)))
