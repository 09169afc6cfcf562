-- Whatever annuls the syndromes vanishes at each place of an error.
use Rattle.std.proofs.Common.{◌≡◌, ◌≢◌, ℕ, zero, suc, ◌+◌, ◌-◌, ◌*◌, ◌<◌, ◌≤◌, ◌==◌, cond, Bool, true, false, List, ◌∷◌}
use Rattle.std.proofs.Common.{map, length, get_or, bit_xor, refl, sym, ap, ap₂, ◌∙◌, arith, []}
use Rattle.std.proofs.lemmas.Bool.{ne_eqb}
use Rattle.std.specs.Int.Bits.{xor_zero_r, xor_lt}
use Rattle.dtx_galois.specs.Field.{mul, pow, value, AreBytes}
use Rattle.dtx_galois.proofs.LinearLemmas.{mul_left, mul_right, xor_swap}
use Rattle.dtx_galois.proofs.FieldLemmas.{mul_comm, mul_assoc, mul_zero, mul_small, xor_zero, mul_swap, no_divisors}
use Rattle.dtx_laws.specs.Codeword.{IsCorrection}
use Rattle.dtx_laws.specs.Locator.{low_value, combination, Annuls}
use Rattle.dtx_laws.proofs.MomentsLemmas.{moment, ArePairs, Lacks, AreApart, AreZero, all_zero, moment_zero}
use Rattle.dtx_laws.proofs.WordsLemmas.{differences, moment_differences, length_differences, apart_differences}
use Rattle.dtx_laws.proofs.WordsLemmas.{pairs_differences}

-- each d times the value at its x
abbrev pub weighted : List ℕ → List (ℕ × ℕ) → List (ℕ × ℕ)
weighted cs ps = map (λ p. (mul p.0 (low_value cs p.1), p.1)) ps

zero_weighted : (ps : List (ℕ × ℕ)) → AreZero (weighted [] ps)
zero_weighted [] = tt
zero_weighted (p ∷ ps) = (mul_zero p.0, zero_weighted ps)

term : (d c x v i : ℕ) → mul (mul d (bit_xor c (mul x v))) (pow x i)
    ≡ bit_xor (mul c (mul d (pow x i))) (mul (mul d v) (pow x (suc i)))
unfolding pow
term d c x v i = grind (arith, mul_right, mul_left, mul_assoc, mul_swap, mul_comm)

moment_weighted : (c : ℕ) (cs : List ℕ) (i : ℕ) (ps : List (ℕ × ℕ))
    → moment i (weighted (c ∷ cs) ps) ≡ bit_xor (mul c (moment i ps)) (moment (suc i) (weighted cs ps))
moment_weighted c cs i [] = sym (ap (λ (y : ℕ). bit_xor y 0) (mul_zero c))
moment_weighted c cs i (p ∷ ps) = ap₂ bit_xor (term p.0 c p.1 (low_value cs p.1) i) (moment_weighted c cs i ps)
    ∙ xor_swap (mul c (mul p.0 (pow p.1 i))) (mul (mul p.0 (low_value cs p.1)) (pow p.1 (suc i))) (mul c (moment i ps))
    (moment (suc i) (weighted cs ps)) ∙ ap (λ (y : ℕ). bit_xor y (moment (suc i) (weighted (cs) (p ∷ ps))))
    (sym (mul_right c (mul p.0 (pow p.1 i)) (moment i ps)))

pub combination_is : (cs : List ℕ) (i : ℕ) (ps : List (ℕ × ℕ))
    → combination cs (λ j. moment j ps) i ≡ moment i (weighted cs ps)
combination_is [] i ps = sym (moment_zero i (weighted [] ps) (zero_weighted ps))
combination_is (c ∷ cs) i ps = rw (combination_is cs (suc i) ps, ← moment_weighted c cs i ps)

length_weighted : (cs : List ℕ) (ps : List (ℕ × ℕ)) → length (weighted cs ps) ≡ length ps
length_weighted cs [] = refl
length_weighted cs (p ∷ ps) = ap suc (length_weighted cs ps)

pairs_weighted : (cs : List ℕ) (ps : List (ℕ × ℕ)) → ArePairs ps → ArePairs (weighted cs ps)
pairs_weighted cs [] h = tt
pairs_weighted cs (p ∷ ps) h = ((mul_small p.0 (low_value cs p.1), h.0.1), pairs_weighted cs ps h.1)

lacks_weighted : (x : ℕ) (cs : List ℕ) (ps : List (ℕ × ℕ)) → Lacks x ps → Lacks x (weighted cs ps)
lacks_weighted x cs [] h = tt
lacks_weighted x cs (p ∷ ps) h = (h.0, lacks_weighted x cs ps h.1)

apart_weighted : (cs : List ℕ) (ps : List (ℕ × ℕ)) → AreApart ps → AreApart (weighted cs ps)
apart_weighted cs [] h = tt
apart_weighted cs (p ∷ ps) h = (lacks_weighted p.1 cs ps h.0, apart_weighted cs ps h.1)

-- Over pairs: where at most t d's give the sequence, its annuller's value times each d is 0.
pub kernel_pairs : (t : ℕ) (cs : List ℕ) (ps : List (ℕ × ℕ)) → length ps ≤ t → ArePairs ps → AreApart ps
    → Annuls cs (λ j. moment j ps) t → AreZero (weighted cs ps)
kernel_pairs t cs ps l b a h =
    all_zero t (weighted cs ps) (omega (arith, length_weighted cs ps)) (pairs_weighted cs ps b) (apart_weighted cs ps a)
    (λ i m. sym (combination_is cs i ps) ∙ h i m)

low_value_small : (cs : List ℕ) (x : ℕ) → AreBytes cs → low_value cs x < 256
low_value_small [] x b = omega arith
low_value_small (c ∷ cs) x b = xor_lt 8 c (mul x (low_value cs x)) b.0 (mul_small x (low_value cs x))

pub same_sequence : (cs : List ℕ) (s r : ℕ → ℕ) (i : ℕ) → ((j : ℕ) → j < i + length cs → s j ≡ r j)
    → combination cs s i ≡ combination cs r i
same_sequence [] s r i h = refl
same_sequence (c ∷ cs) s r i h =
    ap₂ (λ (y z : ℕ). bit_xor (mul c y) z) (h i (omega arith)) (same_sequence cs s r (suc i) (λ j m. h j (omega arith)))

zero_by_test : (t : Bool) (x y q : ℕ) (cs : List ℕ) (ps : List (ℕ × ℕ))
    → AreZero (weighted cs (cond t ps ((bit_xor x y, q) ∷ ps)))
    → (t ≡ false → mul (bit_xor x y) (low_value cs q) ≡ 0) × AreZero (weighted cs ps)
zero_by_test true x y q cs ps z = (λ e. cc, z)
zero_by_test false x y q cs ps z = (λ e. z.0, z.1)

-- by place
zero_at_place : (cs xs ys : List ℕ) → AreBytes cs → AreBytes xs → AreBytes ys → length xs ≡ length ys
    → AreZero (weighted cs (differences xs ys))
    → (p : ℕ) → p < length xs → get_or xs p 0 ≢ get_or ys p 0 → low_value cs (pow 2 (length xs - 1 - p)) ≡ 0
zero_at_place cs [] ys b bx by l z p m h = absurd (omega arith)
zero_at_place cs (x ∷ xs) [] b bx by l z p m h = absurd (omega arith)
zero_at_place cs (x ∷ xs) (y ∷ ys) b bx by l z zero m h = ap (λ n. low_value cs (pow 2 n)) (omega arith)
    ∙ no_divisors (low_value cs (pow 2 (length xs))) (bit_xor x y) (low_value_small cs (pow 2 (length xs)) b)
    (xor_lt 8 x y bx.0 by.0) (λ e. h (xor_zero x y e)) (mul_comm (low_value cs (pow 2 (length xs))) (bit_xor x y)
    ∙ (zero_by_test (x == y) x y (pow 2 (length xs)) cs (differences xs ys) z).0 (ne_eqb x y h))
zero_at_place cs (x ∷ xs) (y ∷ ys) b bx by l z (suc p) m h = ap (λ n. low_value cs (pow 2 n)) (omega arith)
    ∙ zero_at_place cs xs ys b bx.1 by.1 (omega arith)
    (zero_by_test (x == y) x y (pow 2 (length xs)) cs (differences xs ys) z).1 p (omega arith) h

-- Where a word has a correction, what annuls its syndromes vanishes at each place where the two differ.
pub kernel : (n k t : ℕ) (word code locator : List ℕ) → n ≤ 255 → n - k ≡ 2 * t → AreBytes word → length word ≡ n
    → IsCorrection n k word code → AreBytes locator → length locator ≤ t + 1
    → Annuls locator (λ i. value word (pow 2 i)) t → (p : ℕ) → p < n → get_or word p 0 ≢ get_or code p 0
    → low_value locator (pow 2 (n - 1 - p)) ≡ 0
kernel n k t word code locator l e b long c bl ll h p m d =
    let same : length word ≡ length code = long ∙ sym c.codeword.long in
    let z : AreZero (weighted locator (differences word code)) =
    kernel_pairs t locator (differences word code) (omega (arith, length_differences word code, c.near))
    (pairs_differences word code b c.codeword.bytes) (apart_differences word code (omega arith))
    (λ i q. same_sequence locator (λ j. moment j (differences word code)) (λ j. value word (pow 2 j)) i
    (λ j r. moment_differences j word code same
    ∙ ap (bit_xor (value word (pow 2 j))) (c.codeword.vanishes j (omega arith)) ∙ xor_zero_r (value word (pow 2 j)))
    ∙ h i q) in
    ap (λ x. low_value locator (pow 2 (x - 1 - p))) (sym long)
    ∙ zero_at_place locator word code bl b c.codeword.bytes same z p (omega arith) d
