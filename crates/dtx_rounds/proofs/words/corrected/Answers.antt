use Rattle.std.proofs.Common.{◌≡◌, ℕ, Option, Some, None, List, refl, sym, arith}
use Rattle.dtx_laws.specs.Words.{correction}
use Rattle.dtx_laws.specs.Codeword.{IsCorrection}
use Rattle.dtx_laws.proofs.ChoiceLemmas.{correction_is, correction_only}
use Rattle.dtx_rounds.proofs.words.corrected.Goals as goal

pub returns-in-Ok : goal.returns-in-Ok
returns-in-Ok c =
    sym (correction_only 207 187 c.args.word.now c.correct.new.word (omega arith) c.told-word
    c.in-Ok.ensures.answer.correction)

pub returns-in-Err : goal.returns-in-Err
returns-in-Err c = by_answer (correction 207 187 c.args.word.now) (correction_is 207 187 c.args.word.now)
  where
    by_answer : (o : Option (List ℕ)) → ((code : List ℕ) → o ≡ Some code → IsCorrection 207 187 c.args.word.now code)
        → None ≡ o
    by_answer None h = refl
    by_answer (Some code) h = absurd (c.in-Err.ensures.answer.none code (h code refl))
