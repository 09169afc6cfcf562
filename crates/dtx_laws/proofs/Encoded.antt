-- The codeword that begins with a word's data.
use Rattle.std.proofs.Common.{◌≡◌, ℕ, List, length, take, sym, ap, ◌∙◌, subst, arith}
use Rattle.std.proofs.lemmas.List.{length-take-le}
use Rattle.dtx_galois.specs.Field.{AreBytes}
use Rattle.dtx_laws.specs.Codeword.{IsCode, IsCodeword}
use Rattle.dtx_laws.specs.Words.{codeword}
use Rattle.dtx_laws.proofs.ChoiceLemmas.{codeword_is, codeword_begins}
use Rattle.dtx_laws.proofs.PartsLemmas.{bytes_take}

length_head : (n k : ℕ) (word head : List ℕ) → IsCode n k → length word ≡ n → head ≡ take k word → length head ≡ k
length_head n k word head c l h = ap length h ∙ length-take-le k word (omega (arith, c.longer))

pub encoded_codeword : (n k : ℕ) (word head code : List ℕ) → IsCode n k → AreBytes word → length word ≡ n
    → head ≡ take k word → code ≡ codeword n k head → IsCodeword n k code
encoded_codeword n k word head code c b l h e =
    subst (IsCodeword n k) (sym e) (codeword_is n k head c.longer (length_head n k word head c l h)
    (subst AreBytes (sym h) (bytes_take k word b)))

pub encoded_begins : (n k : ℕ) (word head code : List ℕ) → IsCode n k → length word ≡ n → head ≡ take k word
    → code ≡ codeword n k head → take k code ≡ take k word
encoded_begins n k word head code c l h e = grind (arith, codeword_begins, length_head)
