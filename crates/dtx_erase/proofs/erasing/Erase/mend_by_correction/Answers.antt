use Rattle.std.proofs.Common.{rules}
use Rattle.dtx_erase.proofs.erasing.Erase.mend_by_correction.Goals as goal

pub returns-in_err-correct-clause-answer : goal.returns-in_err-correct-clause-answer
returns-in_err-correct-clause-answer g c = search rules

pub accept-requires : goal.accept-requires
accept-requires g c = search rules

pub returns-clause-answer : goal.returns-clause-answer
returns-clause-answer g c = search rules
