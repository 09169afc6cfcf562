use Rattle.dtx_coder.proofs.AlongLemmas.{along_begins, along_goes_on, along_preset}
use Rattle.dtx_coder.proofs.laws.runs.along.Goals as goal

pub returns-clause-begins : goal.returns-clause-begins
returns-clause-begins c = along_begins

pub returns-clause-goes_on : goal.returns-clause-goes_on
returns-clause-goes_on c = along_goes_on

pub returns-clause-preset : goal.returns-clause-preset
returns-clause-preset c = along_preset
