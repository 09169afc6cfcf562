-- What the functions that choose among all words give.
use Rattle.std.proofs.Common.{◌≡◌, ℕ, zero, suc, ◌+◌, ◌-◌, ◌*◌, ◌<◌, ◌≤◌, ◌⊎◌, ◌==◌, nat_le, Bool, true, false, ◌&&◌}
use Rattle.std.proofs.Common.{Option, Some, None, List, ◌∷◌, ◌++◌, map, length, take, unwrap_or, replicate, refl, sym}
use Rattle.std.proofs.Common.{ap, ◌∙◌, subst, arith, inl, inr, IfSome, lit<, rules, []}
use Rattle.std.proofs.lemmas.Bool.{eqb-true, eq-eqb, and_parts, and_from, le-leb, leb-true, true≢false}
use Rattle.std.proofs.lemmas.List.{length-replicate, length-append, length-map, get_or-map, take_at}
use Rattle.std.proofs.lemmas.List.Elements.{Contains-append_left, Contains-append_right}
use Rattle.std.specs.List.{range_with_len, flat_map, find, AllByRecursion, Contains}
use Rattle.dtx_lists.proofs.Range.{range_cases, list_all-range_at, list_all-range_from}
use Rattle.dtx_lists.proofs.Find.{find-gives, find-none}
use Rattle.dtx_galois.specs.Field.{pow, value, AreBytes}
use Rattle.dtx_galois.proofs.BytesLemmas.{bytes_append, bytes_drop}
use Rattle.dtx_laws.specs.Codeword.{IsCodeword, IsCorrection, distance}
use Rattle.dtx_laws.specs.Words.{all_words, vanishes, codeword, correction}
use Rattle.dtx_laws.specs.Register.{register, generator}
use Rattle.dtx_laws.proofs.WordsLemmas.{one_codeword, one_correction}
use Rattle.dtx_laws.proofs.EncodingLemmas.{encoded, encoded_is}

-- ---- all words

Contains-map : (b : ℕ) (w : List ℕ) (ws : List (List ℕ)) → Contains ws w → Contains (map (λ v. b ∷ v) ws) (b ∷ w)
Contains-map b w ws c = grind (arith, length-map, get_or-map)

Contains-flat_map : (b : ℕ) (w : List ℕ) (ws : List (List ℕ)) (a n : ℕ) → a ≤ b → b < a + n → Contains ws w
    → Contains (flat_map (λ c. map (λ v. c ∷ v) ws) (range_with_len a n)) (b ∷ w)
Contains-flat_map b w ws a zero l m h = absurd (omega arith)
Contains-flat_map b w ws a (suc n) l m h =
    by_place (range_cases a b l) (λ p. Contains-flat_map b w ws (a + 1) n p (omega arith) h)
  where
    by_place : (a ≡ b) ⊎ (a + 1 ≤ b) → (a + 1 ≤ b
        → Contains (flat_map (λ c. map (λ v. c ∷ v) ws) (range_with_len (a + 1) n)) (b ∷ w))
        → Contains (map (λ v. a ∷ v) ws ++ flat_map (λ c. map (λ v. c ∷ v) ws) (range_with_len (a + 1) n)) (b ∷ w)
    by_place (inl e) f =
        Contains-append_left (map (λ v. a ∷ v) ws) (flat_map (λ c. map (λ v. c ∷ v) ws) (range_with_len (a + 1) n))
        (b ∷ w) (rw e (Contains-map b w ws h))
    by_place (inr p) f = grind (arith, Contains-append_right)

-- each list of n bytes is among all of them
Contains-all_words : (n : ℕ) (w : List ℕ) → length w ≡ n → AreBytes w → Contains (all_words n) w
unfolding all_words
Contains-all_words zero [] l b = (0, lit< tt, refl)
Contains-all_words zero (x ∷ w) l b = absurd (omega arith)
Contains-all_words (suc n) [] l b = absurd (omega arith)
Contains-all_words (suc n) (x ∷ w) l b = Contains-flat_map x w (all_words n) 0 256 (omega arith) (omega (arith, b.0))
    (Contains-all_words n w (omega arith) b.1)

abbrev AreWords : ℕ → List (List ℕ) → Type 0
AreWords n ws = AllByRecursion (λ w. (length w ≡ n) × AreBytes w) ws

words_append : (n : ℕ) (xs ys : List (List ℕ)) → AreWords n xs → AreWords n ys → AreWords n (xs ++ ys)
words_append n [] ys h k = k
words_append n (x ∷ xs) ys h k = (h.0, words_append n xs ys h.1 k)

words_map : (n b : ℕ) (xs : List (List ℕ)) → b < 256 → AreWords n xs → AreWords (suc n) (map (λ v. b ∷ v) xs)
words_map n b [] l h = tt
words_map n b (x ∷ xs) l h = ((ap suc h.0.0, (l, h.0.1)), words_map n b xs l h.1)

words_flat : (n : ℕ) (xs : List (List ℕ)) (a m : ℕ) → a + m ≤ 256 → AreWords n xs
    → AreWords (suc n) (flat_map (λ c. map (λ v. c ∷ v) xs) (range_with_len a m))
words_flat n xs a zero l h = tt
words_flat n xs a (suc m) l h =
    words_append (suc n) (map (λ v. a ∷ v) xs) (flat_map (λ c. map (λ v. c ∷ v) xs) (range_with_len (a + 1) m))
    (words_map n a xs (omega arith) h) (words_flat n xs (a + 1) m (omega arith) h)

words_all : (n : ℕ) → AreWords n (all_words n)
unfolding all_words
words_all zero = ((refl, tt), tt)
words_all (suc n) = words_flat n (all_words n) 0 256 (omega arith) (words_all n)

-- the word that a test chooses among all words, and that none passes where it chooses none
pub chosen : (fits : List ℕ → Bool) (n : ℕ) (code : List ℕ) → find fits (all_words n) ≡ Some code
    → (fits code ≡ true) × ((length code ≡ n) × AreBytes code)
chosen fits n code e = subst (λ o. IfSome o (λ w. (fits w ≡ true) × ((length w ≡ n) × AreBytes w))) e
    (find-gives fits (λ w. (length w ≡ n) × AreBytes w) (all_words n) (words_all n))

pub none_fits : (fits : List ℕ → Bool) (n : ℕ) (code : List ℕ) → find fits (all_words n) ≡ None → length code ≡ n
    → AreBytes code → fits code ≡ false
none_fits fits n code e l b = find-none fits (all_words n) code e (Contains-all_words n code l b)

-- ---- the test

pub vanishes_at : (n k : ℕ) (w : List ℕ) → vanishes n k w ≡ true → (i : ℕ) → i < n - k → value w (pow 2 i) ≡ 0
unfolding vanishes
vanishes_at n k w t i l =
    eqb-true (value w (pow 2 i)) 0 (list_all-range_at (λ i. value w (pow 2 i) == 0) 0 (n - k) t i (omega arith)
    (omega arith))

pub vanishes_from : (n k : ℕ) (w : List ℕ) → ((i : ℕ) → i < n - k → value w (pow 2 i) ≡ 0) → vanishes n k w ≡ true
unfolding vanishes
vanishes_from n k w h = grind (arith, list_all-range_from, eq-eqb)

-- ---- the codeword

-- by the answer of find
chosen_codeword : (n k : ℕ) (bs rest : List ℕ) (o : Option (List ℕ)) → k < n → length bs ≡ k → AreBytes bs
    → IfSome o (λ w. (vanishes n k (bs ++ w) ≡ true) × ((length w ≡ n - k) × AreBytes w))
    → (o ≡ None → vanishes n k (bs ++ rest) ≡ false) → vanishes n k (bs ++ rest) ≡ true
    → IsCodeword n k (bs ++ unwrap_or o (replicate (n - k) 0))
chosen_codeword n k bs rest (Some w) l e b h g t = grind (arith, length-append, bytes_append, vanishes_at)
chosen_codeword n k bs rest None l e b h g t = absurd (true≢false (sym t ∙ g refl))

pub codeword_is : (n k : ℕ) (bs : List ℕ) → k < n → length bs ≡ k → AreBytes bs → IsCodeword n k (codeword n k bs)
unfolding codeword
codeword_is n k bs l e b =
    let c : IsCodeword n k (encoded (n - k) bs) = encoded_is n k bs l e b in
    chosen_codeword n k bs (check_bytes n k bs) (find (λ w. vanishes n k (bs ++ w)) (all_words (n - k))) l e b
    (find-gives (λ w. vanishes n k (bs ++ w)) (λ w. (length w ≡ n - k)
    × AreBytes w) (all_words (n - k)) (words_all (n - k)))
    (λ none. find-none (λ w. vanishes n k (bs ++ w)) (all_words (n - k)) (check_bytes n k bs) none
    (Contains-all_words (n - k) (check_bytes n k bs) (omega (arith, c.long, length-append bs (check_bytes n k bs)))
    (bytes_drop bs (check_bytes n k bs) c.bytes))) (vanishes_from n k (bs ++ check_bytes n k bs) c.vanishes)
  where
    check_bytes : (n k : ℕ) (bs : List ℕ) → List ℕ
    check_bytes n k bs = register (generator (n - k)) (replicate (n - k) 0) bs

pub codeword_begins : (n k : ℕ) (bs : List ℕ) → length bs ≡ k → take k (codeword n k bs) ≡ bs
unfolding codeword
codeword_begins n k bs e = grind (arith, take_at)

-- what is a codeword and begins with the data is the function's
pub codeword_only : (n k : ℕ) (bs c : List ℕ) → n ≤ 255 → k < n → length bs ≡ k → AreBytes bs → IsCodeword n k c
    → take k c ≡ bs → c ≡ codeword n k bs
codeword_only n k bs c m l e b h t = search (rules, one_codeword, codeword_is, codeword_begins)

-- for every list, of bytes or not
pub codeword_length : (n k : ℕ) (bs : List ℕ) → length (codeword n k bs) ≡ length bs + (n - k)
unfolding codeword
codeword_length n k bs = by_answer (find (λ w. vanishes n k (bs ++ w)) (all_words (n - k)))
    (find-gives (λ w. vanishes n k (bs ++ w)) (λ w. (length w ≡ n - k)
    × AreBytes w) (all_words (n - k)) (words_all (n - k)))
  where
    by_answer : (o : Option (List ℕ)) → IfSome o (λ w. (vanishes n k (bs ++ w) ≡ true)
        × ((length w ≡ n - k) × AreBytes w)) → length (bs ++ unwrap_or o (replicate (n - k) 0)) ≡ length bs + (n - k)
    by_answer (Some w) h = length-append bs w ∙ ap (λ m. length bs + m) h.1.0
    by_answer None h = grind (arith, length-append, length-replicate)

-- ---- the correction

abbrev fits : ℕ → ℕ → List ℕ → List ℕ → Bool
fits n k word c = vanishes n k c && nat_le (2 * distance word c) (n - k)

correction_from : (n k : ℕ) (word c : List ℕ) → fits n k word c ≡ true → length c ≡ n → AreBytes c
    → IsCorrection n k word c
correction_from n k word c t l b = grind (arith, and_parts, vanishes_at, leb-true)

correction_fits : (n k : ℕ) (word c : List ℕ) → IsCorrection n k word c → fits n k word c ≡ true
correction_fits n k word c h = grind (arith, and_from, vanishes_from, le-leb)

pub correction_is : (n k : ℕ) (word code : List ℕ) → correction n k word ≡ Some code → IsCorrection n k word code
unfolding correction
correction_is n k word code e =
    let h : (fits n k word code ≡ true) × ((length code ≡ n) × AreBytes code) = chosen (fits n k word) n code e in
    correction_from n k word code h.0 h.1.0 h.1.1

pub correction_none : (n k : ℕ) (word : List ℕ) → correction n k word ≡ None → (code : List ℕ)
    → IsCorrection n k word code → ⊥
unfolding correction
correction_none n k word e code h = grind (arith, true≢false, correction_fits, none_fits)

-- what is a correction is the function's
pub correction_only : (n k : ℕ) (word code : List ℕ) → n ≤ 255 → length word ≡ n → IsCorrection n k word code
    → correction n k word ≡ Some code
correction_only n k word code m l h =
    by_answer (correction n k word) (correction_is n k word) (correction_none n k word)
  where
    by_answer : (o : Option (List ℕ)) → ((c : List ℕ) → o ≡ Some c → IsCorrection n k word c)
        → (o ≡ None → (c : List ℕ) → IsCorrection n k word c → ⊥) → o ≡ Some code
    by_answer (Some c) f g = ap Some (one_correction n k word c code m l (f c refl) h)
    by_answer None f g = absurd (g refl code h)
