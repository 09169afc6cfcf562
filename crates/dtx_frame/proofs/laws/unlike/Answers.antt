use Rattle.dtx_frame.proofs.UnlikeLemmas.{unlike_segment, unlike_looks}
use Rattle.dtx_frame.proofs.laws.unlike.Goals as goal

pub returns-clause-differing : goal.returns-clause-differing
returns-clause-differing c = unlike_segment

pub returns-clause-looks : goal.returns-clause-looks
returns-clause-looks c = unlike_looks
