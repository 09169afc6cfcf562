use Rattle.std.proofs.Common.{Bool, List, subst}
use Rattle.dtx_erase.specs.Mending.{IsAnswered}
use Rattle.dtx_erase.proofs.words.Words.mend.Goals as goal

pub returns-clause-answer : goal.returns-clause-answer
returns-clause-answer c =
    rw (← c.marks_of.ensures) c.mend.ensures.answer
