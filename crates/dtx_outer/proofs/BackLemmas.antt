-- Words near the codeword of a packet's data.
use Rattle.std.proofs.Common.{◌≡◌, ℕ, ◌+◌, ◌-◌, ◌*◌, ◌<◌, ◌≤◌, Some, List, length, take, ap, ◌∙◌, sym, arith}
use Rattle.dtx_galois.specs.Field.{AreBytes}
use Rattle.dtx_laws.specs.Codeword.{IsCodeword, IsCorrection, distance}
use Rattle.dtx_laws.specs.Whitening.{whitened}
use Rattle.dtx_laws.specs.Words.{correction}
use Rattle.dtx_laws.proofs.ChoiceLemmas.{codeword_is, codeword_begins, codeword_length, codeword_only, correction_is}
use Rattle.dtx_laws.proofs.ChoiceLemmas.{correction_only}
use Rattle.dtx_laws.proofs.WhiteningLemmas.{length-whitened, bytes_whitened, whitened_twice}
use Rattle.dtx_outer.specs.Outer.{coded}

pub length-coded : (n k : ℕ) (white : List ℕ) (from : ℕ) (head : List ℕ)
    → length (coded n k white from head) ≡ length head + (n - k)
length-coded n k white from head = grind (arith, codeword_length, length-whitened)

-- Data of k bytes, and the whitener's bytes.
pub record AreData (n k : ℕ) (white head : List ℕ) : Type 0 where
  pub longer : k < n
  pub few : n ≤ 255
  pub whitener : AreBytes white
  pub long : length head ≡ k
  pub bytes : AreBytes head

pub coded_is : (n k : ℕ) (white : List ℕ) (from : ℕ) (head : List ℕ) → k < n → AreBytes white → length head ≡ k
    → AreBytes head → IsCodeword n k (coded n k white from head)
coded_is n k white from head s w l b =
    codeword_is n k (whitened white from head) s (length-whitened white head from ∙ l)
    (bytes_whitened white head from w b)

-- the codeword gives the data back
pub coded_back : (n k : ℕ) (white : List ℕ) (from : ℕ) (head : List ℕ) → length head ≡ k
    → whitened white from (take k (coded n k white from head)) ≡ head
coded_back n k white from head l = grind (arith, codeword_begins, length-whitened, whitened_twice)

-- it is the correction of each word that is near
pub near_corrected : (n k : ℕ) (white : List ℕ) (from : ℕ) (head word : List ℕ) → AreData n k white head
    → length word ≡ n → 2 * distance word (coded n k white from head) ≤ n - k
    → correction n k word ≡ Some (coded n k white from head)
near_corrected n k white from head word h l d = correction_only n k word (coded n k white from head) h.few l
    (record { codeword = coded_is n k white from head h.longer h.whitener h.long h.bytes; near = d })

-- and a word is near whose correction gives the data
pub near_if_corrected : (n k : ℕ) (white : List ℕ) (from : ℕ) (head word code : List ℕ) → AreData n k white head
    → correction n k word ≡ Some code → whitened white from (take k code) ≡ head
    → (code ≡ coded n k white from head) × (2 * distance word (coded n k white from head) ≤ n - k)
near_if_corrected n k white from head word code h e back =
    let correct : IsCorrection n k word code = correction_is n k word code e in
    let begins : take k code ≡ whitened white from head =
    sym (whitened_twice white (take k code) from) ∙ ap (whitened white from) back in
    let own : code ≡ coded n k white from head =
    codeword_only n k (whitened white from head) code h.few h.longer (length-whitened white head from ∙ h.long)
    (bytes_whitened white head from h.whitener h.bytes) correct.codeword begins in
    let near : 2 * distance word (coded n k white from head) ≤ n - k = rw (← own) correct.near in
    (own, near)
