use Rattle.dtx_coder.proofs.FlushedLemmas.{bytes_settled, group_settled}
use Rattle.dtx_coder.proofs.laws.flushed.Goals as goal

pub returns-clause-bytes : goal.returns-clause-bytes
returns-clause-bytes c = bytes_settled

pub returns-clause-group : goal.returns-clause-group
returns-clause-group c = group_settled
