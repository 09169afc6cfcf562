use Rattle.dtx_erase.proofs.MendingLemmas.{mending_corrects, correction_mends}
use Rattle.dtx_erase.proofs.laws.without_marks.Goals as goal

pub returns-clause-correction : goal.returns-clause-correction
returns-clause-correction c = mending_corrects

pub returns-clause-mending : goal.returns-clause-mending
returns-clause-mending c = correction_mends
