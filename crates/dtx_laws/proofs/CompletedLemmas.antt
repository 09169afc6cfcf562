-- Words that stand one behind the other, each made the codeword of its data.
use Rattle.std.proofs.Common.{◌≡◌, ℕ, suc, ◌+◌, ◌*◌, ◌<◌, ◌≤◌, List, ◌∷◌, ◌++◌, length, get_or, take, drop, below_more}
use Rattle.std.proofs.Common.{refl, sym, ap, ap₂, ◌∙◌, arith, []}
use Rattle.std.specs.List.{enumerate_from, flat_map}
use Rattle.std.proofs.lemmas.List.{append-nil, drop-drop, drop-take, drop_at, length-take-le, take-append-le, take_at}
use Rattle.std.proofs.lemmas.Nat.{mul-le}
use Rattle.std.proofs.lemmas.Slice.{take-put_mid_below}
use borrow.Rule.Slice.PartMut.{put_mid}
use Rattle.dtx_laws.specs.Words.{codeword, completed}

-- a word, and those behind it
completed_joined : (n k count : ℕ) (word rest : List ℕ) → k ≤ n → length word ≡ n
    → completed n k (suc count) (word ++ rest) ≡ codeword n k (take k word) ++ completed n k count rest
unfolding completed
completed_joined n k count word rest m l = grind (arith, take-append-le, drop_at)

completed_last : (n k : ℕ) (word : List ℕ) → completed n k 1 word ≡ codeword n k (take k word)
unfolding completed
completed_last n k word = append-nil (codeword n k (take k word))

-- four words
pub completed_four : (n k : ℕ) (one two three four : List ℕ) → k ≤ n → length one ≡ n → length two ≡ n
    → length three ≡ n → completed n k 4 (one ++ (two ++ (three ++ four)))
    ≡ codeword n k (take k one) ++ (codeword n k (take k two) ++ (codeword n k (take k three)
    ++ codeword n k (take k four)))
completed_four n k one two three four m l1 l2 l3 = grind (arith, completed_joined, completed_last)

-- words that begin each with what is made of one of some packets, by its number
pub completed_each : (n k : ℕ) (head : ℕ → List ℕ → List ℕ) (s : ℕ) (packets : List (List ℕ)) (words : List ℕ)
    → ((p : ℕ) → p < length packets → take k (drop (n * p) words) ≡ head (s + p) (get_or packets p []))
    → completed n k (length packets) words ≡ flat_map (λ p. codeword n k (head p.0 p.1)) (enumerate_from s packets)
unfolding completed
completed_each n k head s [] words at = refl
completed_each n k head s (x ∷ xs) words at = ap₂ (λ a b. codeword n k a ++ b)
    (ap (λ i. take k (drop i words)) (none n) ∙ at 0 (omega arith)
    ∙ ap (λ i. head i x) (let e : s + 0 ≡ s = omega arith in e)) (completed_each n k head (s + 1) xs (drop n words)
    (λ p l. grind (arith, drop-drop, next)))
  where
    none : (n : ℕ) → 0 ≡ n * 0
    none n = grind arith

    next : (n p : ℕ) → n + n * p ≡ n * suc p
    next n p = grind arith

-- one front more: where the fronts of the first words are given, and the next one was written
pub fronts_more : (n k i m : ℕ) (words front : List ℕ) (head : ℕ → List ℕ) → k ≤ n → n * i ≤ length words
    → length front ≡ k → ((p : ℕ) → p < i → take k (drop (n * p) words) ≡ head p) → front ≡ head i
    → (p : ℕ) → p < i + 1 → take k (drop (n * p) (put_mid (n * i) m words front)) ≡ head p
fronts_more n k i m words front head few within long before here =
    below_more (λ p. take k (drop (n * p) (put_mid (n * i) m words front)) ≡ head p) i
    (λ p l. sym (drop-take (n * p) k (put_mid (n * i) m words front))
    ∙ ap (drop (n * p)) (take-put_mid_below (n * i) m words front (n * p + k) (apart n k p i l few) within)
    ∙ drop-take (n * p) k words ∙ before p l) (grind (arith, drop_at, length-take-le, take_at))
  where
    apart : (n k p i : ℕ) → p < i → k ≤ n → n * p + k ≤ n * i
    apart n k p i l m = grind (arith, mul-le)
