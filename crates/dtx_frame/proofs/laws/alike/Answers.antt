use Rattle.dtx_frame.proofs.AlikeLemmas.{none_differ, looks_alike, second_told}
use Rattle.dtx_frame.proofs.laws.alike.Goals as goal

pub returns-clause-differing : goal.returns-clause-differing
returns-clause-differing c = none_differ

pub returns-clause-looks : goal.returns-clause-looks
returns-clause-looks c = looks_alike

pub returns-clause-second : goal.returns-clause-second
returns-clause-second c = second_told
