-- The answers of correctors.
use Rattle.std.proofs.Common.{◌≡◌, ℕ, ◌<◌, ◌≤◌, List, length, sym, arith}
use Rattle.dtx_galois.specs.Field.{AreBytes}
use Rattle.dtx_laws.specs.Codeword.{IsCodeword}
use Rattle.dtx_laws.specs.Words.{IsCorrected, IsLeft, codeword}
use Rattle.dtx_laws.proofs.ChoiceLemmas.{codeword_is}
use Rattle.dtx_laws.proofs.WordsLemmas.{one_correction, own_correction, distance_self}

pub answers_same : (n k : ℕ) (word a b : List ℕ) (d e : ℕ) → n ≤ 255 → length word ≡ n → IsCorrected n k word a d
    → IsCorrected n k word b e → (a ≡ b) × (d ≡ e)
answers_same n k word a b d e m l p q = grind (arith, one_correction)

pub answer_either : (n k : ℕ) (word a b : List ℕ) (e : ℕ) → IsCorrected n k word a e → IsLeft n k word b → ⊥
answer_either n k word a b e p q = q.none a p.correction

-- a codeword is its own correction
pub codeword_answer : (n k : ℕ) (word : List ℕ) → IsCodeword n k word → IsCorrected n k word word 0
codeword_answer n k word c = record { correction = own_correction n k word c; changed = sym (distance_self word) }

pub answer_codeword : (n k : ℕ) (word a : List ℕ) (e : ℕ) → n ≤ 255 → IsCodeword n k word → IsCorrected n k word a e
    → (a ≡ word) × (e ≡ 0)
answer_codeword n k word a e m c p = grind (arith, codeword_answer, answers_same)

pub codeword_never_left : (n k : ℕ) (word a : List ℕ) → IsCodeword n k word → IsLeft n k word a → ⊥
codeword_never_left n k word a c q = q.none word (own_correction n k word c)

-- what an encoder made is a codeword
pub encoded_answer : (n k : ℕ) (head a : List ℕ) (e : ℕ) → n ≤ 255 → k < n → length head ≡ k → AreBytes head
    → IsCorrected n k (codeword n k head) a e → (a ≡ codeword n k head) × (e ≡ 0)
encoded_answer n k head a e m s l b p = answer_codeword n k (codeword n k head) a e m (codeword_is n k head s l b) p

pub encoded_never_left : (n k : ℕ) (head a : List ℕ) → k < n → length head ≡ k → AreBytes head
    → IsLeft n k (codeword n k head) a → ⊥
encoded_never_left n k head a s l b q = codeword_never_left n k (codeword n k head) a (codeword_is n k head s l b) q
