use Rattle.dtx_network.proofs.OutOfStep.{lost_before_third}
use Rattle.dtx_network.proofs.laws.a_lock_out_of_step_is_lost.Goals as goal

pub returns : goal.returns
returns c = lost_before_third
