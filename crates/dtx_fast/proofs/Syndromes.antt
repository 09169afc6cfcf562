-- The syndromes of a word from the bytes behind its data.
use Rattle.std.proofs.Common.{◌≡◌, ℕ, ◌-◌, ◌<◌, List, ◌++◌, length, take, drop, refl, ap, ap₂, ◌∙◌, arith, length-drop}
use Rattle.std.proofs.lemmas.List.{take_rest, take_at, drop_at, length-take-le}
use Rattle.dtx_galois.specs.Field.{pow, value, sums}
use Rattle.dtx_laws.specs.Codeword.{IsCodeword}
use Rattle.dtx_laws.proofs.PartsLemmas.{syndrome_is}

pub syndromes_are : (k : ℕ) (word parity : List ℕ) (s : ℕ → ℕ) → k < length word
    → IsCodeword (length word) k (take k word ++ parity) → ((i : ℕ) → i < length (take (length word - k) (drop k word))
    → s i ≡ value (sums (take (length word - k) (drop k word)) parity) (pow 2 i))
    → (i : ℕ) → i < length word - k → s i ≡ value word (pow 2 i)
syndromes_are k word parity s m c h i l =
    let front : length (take k word) ≡ k = length-take-le k word (omega arith) in
    h i (omega (arith, ap length (take_rest word k), length-drop k word, l))
    ∙ ap₂ (λ (xs ys : List ℕ). value (sums xs ys) (pow 2 i)) (take_rest word k) (grind (arith, drop_at))
    ∙ syndrome_is (length word) k i word (take k word ++ parity) refl c (take_at (take k word) parity k front) l
