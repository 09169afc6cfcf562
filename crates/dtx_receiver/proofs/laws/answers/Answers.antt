use Rattle.dtx_receiver.proofs.IntervalsLemmas.{told_on, told_off}
use Rattle.dtx_receiver.proofs.laws.answers.Goals as goal

pub returns-clause-on : goal.returns-clause-on
returns-clause-on c = told_on

pub returns-clause-off : goal.returns-clause-off
returns-clause-off c = told_off
