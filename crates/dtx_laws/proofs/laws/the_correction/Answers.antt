use Rattle.dtx_laws.proofs.ChoiceLemmas.{correction_is, correction_only, correction_none}
use Rattle.dtx_laws.proofs.laws.the_correction.Goals as goal

pub returns-clause-is : goal.returns-clause-is
returns-clause-is c = correction_is

pub returns-clause-only : goal.returns-clause-only
returns-clause-only c = correction_only

pub returns-clause-none : goal.returns-clause-none
returns-clause-none c = correction_none
