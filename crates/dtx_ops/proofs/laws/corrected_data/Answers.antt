use Rattle.dtx_ops.proofs.ReadingsLemmas.{corrected_some, corrected_none}
use Rattle.dtx_ops.proofs.laws.corrected_data.Goals as goal

pub returns-clause-some : goal.returns-clause-some
returns-clause-some c = corrected_some

pub returns-clause-none : goal.returns-clause-none
returns-clause-none c = corrected_none
