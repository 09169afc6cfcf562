-- The answers of what mends, from those of a corrector and of the final test.
use Rattle.std.proofs.Common.{◌≡◌, ℕ, List, Bool, length, arith}
use Rattle.std.specs.Prelude.{Result, Ok, Err, MatchResult}
use Rattle.dtx_laws.specs.Codeword.{IsCodeword}
use Rattle.dtx_laws.specs.Words.{IsCorrected, IsLeft}
use Rattle.dtx_erase.specs.Mending.{lost, IsMending, IsAnswered, IsUnmended}
use Rattle.dtx_erase.proofs.MendingLemmas.{correction_mends, mending_corrects}

-- without marks the corrector's answer is the mender's
pub corrected_answer : {E : Type 0} (n k : ℕ) (marks : List Bool) (old new : List ℕ) (r : Result ℕ E) → length old ≡ n
    → length marks ≡ n → lost marks ≡ 0 → MatchResult r (IsCorrected n k old new) (λ _e. IsLeft n k old new)
    → IsAnswered n k marks old new r
corrected_answer n k marks old new (Ok c) lo lm z h = grind (arith, correction_mends)
corrected_answer n k marks old new (Err e) lo lm z h = record {
  none = λ code p. h.none code (mending_corrects n k marks old code lo lm z p);
  same = h.same;
}

-- what was restored is no codeword, so there was no mending
pub not_restored : (n k : ℕ) (marks : List Bool) (word tried : List ℕ)
    → ((right : List ℕ) → IsMending n k marks word right → tried ≡ right) → (IsCodeword n k tried → ⊥)
    → IsUnmended n k marks word word
not_restored n k marks word tried h d = grind arith
