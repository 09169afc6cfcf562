-- Words as pairs of a byte and the power of 2 at its place.
use Rattle.std.proofs.Common.{◌≡◌, ◌≢◌, ℕ, zero, suc, ◌+◌, ◌-◌, ◌<◌, ◌≤◌, ◌⊎◌, ◌==◌, cond, Bool, true, false, List, ◌∷◌}
use Rattle.std.proofs.Common.{take, length, bit_xor, refl, sym, ap, ap₂, ◌∙◌, subst, arith, []}
use Rattle.std.proofs.lemmas.Bool.{cases_lt, eqb-true, eqb-false, eq-eqb}
use Rattle.std.proofs.lemmas.Bool.Decides.{nat_tests}
use Rattle.std.specs.Int.Bits.{xor_self, xor_lt}
use Rattle.dtx_galois.specs.Field.{mul, pow, value, AreBytes}
use Rattle.dtx_galois.proofs.LinearLemmas.{mul_left, xor_swap}
use Rattle.dtx_galois.proofs.FieldLemmas.{zero_mul, pow_small, xor_zero}
use Rattle.dtx_laws.specs.Codeword.{IsCodeword, IsCorrection, distance}
use Rattle.dtx_laws.proofs.MomentsLemmas.{moment, ArePairs, Lacks, AreApart, AreZero, all_zero}
use Rattle.dtx_galois.proofs.PowersLemmas.{pow_swap, powers_differ}

-- the differences of two words, each with the power of 2 at its place
abbrev pub differences : List ℕ → List ℕ → List (ℕ × ℕ)
differences [] ys = []
differences (x ∷ xs) [] = []
differences (x ∷ xs) (y ∷ ys) = cond (x == y) (differences xs ys) ((bit_xor x y, pow 2 (length xs)) ∷ differences xs ys)

length_by_test : (t : Bool) (p : ℕ × ℕ) (ps : List (ℕ × ℕ)) (n : ℕ) → length ps ≡ n
    → length (cond t ps (p ∷ ps)) ≡ cond t 0 1 + n
length_by_test true p ps n e = omega (arith, e)
length_by_test false p ps n e = omega (arith, e)

pub length_differences : (xs ys : List ℕ) → length (differences xs ys) ≡ distance xs ys
length_differences [] ys = refl
length_differences (x ∷ xs) [] = refl
length_differences (x ∷ xs) (y ∷ ys) =
    length_by_test (x == y) (bit_xor x y, pow 2 (length xs)) (differences xs ys) (distance xs ys)
    (length_differences xs ys)

moment_by_test : (t : Bool) (i x y q : ℕ) (ps : List (ℕ × ℕ)) → (t ≡ true → x ≡ y)
    → moment i (cond t ps ((bit_xor x y, q) ∷ ps)) ≡ bit_xor (mul (bit_xor x y) (pow q i)) (moment i ps)
moment_by_test true i x y q ps e = sym (ap (λ (z : ℕ). bit_xor z (moment i ps)) (ap (λ (z : ℕ). mul z (pow q i))
    (rw (e refl, xor_self y)) ∙ zero_mul (pow q i)))
moment_by_test false i x y q ps e = refl

-- the sum of the differences is that of the values
pub moment_differences : (i : ℕ) (xs ys : List ℕ) → length xs ≡ length ys
    → moment i (differences xs ys) ≡ bit_xor (value xs (pow 2 i)) (value ys (pow 2 i))
unfolding value
moment_differences i [] [] l = refl
moment_differences i [] (y ∷ ys) l = absurd (omega arith)
moment_differences i (x ∷ xs) [] l = absurd (omega arith)
moment_differences i (x ∷ xs) (y ∷ ys) l =
    moment_by_test (x == y) i x y (pow 2 (length xs)) (differences xs ys) (eqb-true x y) ∙ ap₂ bit_xor
    (grind (arith, pow_swap, mul_left)) (moment_differences i xs ys (omega arith))
    ∙ xor_swap (mul x (pow (pow 2 i) (length xs))) (mul y (pow (pow 2 i) (length ys))) (value xs (pow 2 i))
    (value ys (pow 2 i))

-- the pairs of a word of at most 255 bytes are apart
lacks_by_test : (t : Bool) (q : ℕ) (p : ℕ × ℕ) (ps : List (ℕ × ℕ)) → p.1 ≢ q → Lacks q ps → Lacks q (cond t ps (p ∷ ps))
lacks_by_test true q p ps h r = r
lacks_by_test false q p ps h r = (h, r)

lacks_earlier : (n : ℕ) (xs ys : List ℕ) → length xs ≤ n → n < 255 → Lacks (pow 2 n) (differences xs ys)
lacks_earlier n [] ys l m = tt
lacks_earlier n (x ∷ xs) [] l m = tt
lacks_earlier n (x ∷ xs) (y ∷ ys) l m = lacks_by_test (x == y) (pow 2 n) (
  bit_xor x y,
  pow 2 (length xs),
) (differences xs ys) (powers_differ (length xs) n (omega arith) m) (lacks_earlier n xs ys (omega arith) m)

apart_by_test : (t : Bool) (p : ℕ × ℕ) (ps : List (ℕ × ℕ)) → Lacks p.1 ps → AreApart ps → AreApart (cond t ps (p ∷ ps))
apart_by_test true p ps h r = r
apart_by_test false p ps h r = (h, r)

pub apart_differences : (xs ys : List ℕ) → length xs ≤ 255 → AreApart (differences xs ys)
apart_differences [] ys l = tt
apart_differences (x ∷ xs) [] l = tt
apart_differences (x ∷ xs) (y ∷ ys) l = apart_by_test (x == y) (bit_xor x y, pow 2 (length xs)) (differences xs ys)
    (lacks_earlier (length xs) xs ys (omega arith) (omega arith)) (apart_differences xs ys (omega arith))

pairs_by_test : (t : Bool) (p : ℕ × ℕ) (ps : List (ℕ × ℕ)) → p.0 < 256 → p.1 < 256 → ArePairs ps
    → ArePairs (cond t ps (p ∷ ps))
pairs_by_test true p ps h i r = r
pairs_by_test false p ps h i r = ((h, i), r)

pub pairs_differences : (xs ys : List ℕ) → AreBytes xs → AreBytes ys → ArePairs (differences xs ys)
pairs_differences [] ys b c = tt
pairs_differences (x ∷ xs) [] b c = tt
pairs_differences (x ∷ xs) (y ∷ ys) b c =
    pairs_by_test (x == y) (bit_xor x y, pow 2 (length xs)) (differences xs ys) (xor_lt 8 x y b.0 c.0)
    (pow_small 2 (length xs)) (pairs_differences xs ys b.1 c.1)

-- no difference is 0, so where all are, there is none, and the words are one
same_by_test : (t : Bool) (x y q : ℕ) (xs ys : List ℕ) (ps : List (ℕ × ℕ)) → (t ≡ true → x ≡ y)
    → (t ≡ false → x ≡ y → ⊥) → AreZero (cond t ps ((bit_xor x y, q) ∷ ps)) → (AreZero ps → xs ≡ ys) → x ∷ xs ≡ y ∷ ys
same_by_test true x y q xs ys ps e f z r = ap₂ ◌∷◌ (e refl) (r z)
same_by_test false x y q xs ys ps e f z r = absurd (f refl (xor_zero x y z.0))

pub same_from_zero : (xs ys : List ℕ) → length xs ≡ length ys → AreZero (differences xs ys) → xs ≡ ys
same_from_zero [] [] l z = refl
same_from_zero [] (y ∷ ys) l z = absurd (omega arith)
same_from_zero (x ∷ xs) [] l z = absurd (omega arith)
same_from_zero (x ∷ xs) (y ∷ ys) l z =
    same_by_test (x == y) x y (pow 2 (length xs)) xs ys (differences xs ys) (eqb-true x y) (eqb-false x y) z
    (same_from_zero xs ys (omega arith))

-- two codewords that differ in few places are one
pub same_codewords : (n k : ℕ) (a b : List ℕ) → n ≤ 255 → IsCodeword n k a → IsCodeword n k b → distance a b ≤ n - k
    → a ≡ b
same_codewords n k a b l ca cb d = same_from_zero a b (ca.long ∙ sym cb.long)
    (grind (arith, all_zero, length_differences, pairs_differences, apart_differences, moment_differences))

pub codewords_apart : (n k : ℕ) (a b : List ℕ) → n ≤ 255 → IsCodeword n k a → IsCodeword n k b
    → (a ≡ b) ⊎ (n - k + 1 ≤ distance a b)
codewords_apart n k a b l ca cb = grind (arith, cases_lt, same_codewords)

-- distances
cost_self : (x : ℕ) → ◌≡◌ {A = ℕ} (cond (x == x) 0 1) 0
cost_self x = ap (λ t. cond t 0 1) (eq-eqb x x refl)

pub distance_from_front : (k : ℕ) (a b : List ℕ) → take k a ≡ take k b → distance a b ≤ length a - k
distance_from_front k [] ys e = omega arith
distance_from_front k (x ∷ xs) [] e = omega arith
distance_from_front zero (x ∷ xs) (y ∷ ys) e = omega (arith, le_length (x ∷ xs) (y ∷ ys))
  where
    cost_le : (t : Bool) → cond t 0 1 ≤ 1
    cost_le true = omega arith
    cost_le false = omega arith

    le_length : (xs ys : List ℕ) → distance xs ys ≤ length xs
    le_length [] ys = omega arith
    le_length (x ∷ xs) [] = omega arith
    le_length (x ∷ xs) (y ∷ ys) = omega (arith, cost_le (x == y), le_length xs ys)
distance_from_front (suc k) (x ∷ xs) (y ∷ ys) e =
    let h : x ≡ y = cc in
    omega (arith, distance_from_front k xs ys cc, subst (λ (z : ℕ). ◌≡◌ {A = ℕ} (cond (x == z) 0 1) 0) h (cost_self x))

pub distance_comm : (a b : List ℕ) → distance a b ≡ distance b a
distance_comm [] [] = refl
distance_comm [] (y ∷ ys) = refl
distance_comm (x ∷ xs) [] = refl
distance_comm (x ∷ xs) (y ∷ ys) = ap₂ ◌+◌ (ap (λ t. cond t 0 1) (eqb_comm x y)) (distance_comm xs ys)
  where
    eqb_comm : (x y : ℕ) → (x == y) ≡ (y == x)
    eqb_comm x y = grind (arith, nat_tests)

-- the triangle
pub distance_through : (a b c : List ℕ) → length a ≡ length b → length b ≡ length c
    → distance a c ≤ distance a b + distance b c
distance_through [] b c l m = omega arith
distance_through (x ∷ xs) [] c l m = absurd (omega arith)
distance_through (x ∷ xs) (y ∷ ys) [] l m = absurd (omega arith)
distance_through (x ∷ xs) (y ∷ ys) (z ∷ zs) l m =
    omega (arith, cost x y z, distance_through xs ys zs (omega arith) (omega arith))
  where
    cost : (x y z : ℕ) → cond (x == z) 0 1 ≤ cond (x == y) 0 1 + cond (y == z) 0 1
    cost x y z = grind (arith, nat_tests)

pub one_codeword : (n k : ℕ) (a b : List ℕ) → n ≤ 255 → IsCodeword n k a → IsCodeword n k b → take k a ≡ take k b
    → a ≡ b
one_codeword n k a b l ca cb e = same_codewords n k a b l ca cb (omega (arith, distance_from_front k a b e, ca.long))

pub one_correction : (n k : ℕ) (word a b : List ℕ) → n ≤ 255 → length word ≡ n → IsCorrection n k word a
    → IsCorrection n k word b → a ≡ b
one_correction n k word a b l e ca cb = grind (arith, same_codewords, distance_through, distance_comm)

pub distance_self : (a : List ℕ) → distance a a ≡ 0
distance_self [] = refl
distance_self (x ∷ xs) = ap₂ ◌+◌ (cost_self x) (distance_self xs)

pub own_correction : (n k : ℕ) (word : List ℕ) → IsCodeword n k word → IsCorrection n k word word
own_correction n k word c = record { codeword = c; near = omega (arith, distance_self word) }
