use Rattle.dtx_network.proofs.OtherMarks.{one_mark_missing}
use Rattle.dtx_network.proofs.laws.one_mark_may_be_missing.Goals as goal

pub returns : goal.returns
returns c = one_mark_missing
