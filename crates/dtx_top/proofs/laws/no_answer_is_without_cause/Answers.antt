use Rattle.dtx_top.proofs.Ending.{complete_of}
use Rattle.dtx_top.proofs.laws.no_answer_is_without_cause.Goals as goal

pub returns : goal.returns
returns c = complete_of
