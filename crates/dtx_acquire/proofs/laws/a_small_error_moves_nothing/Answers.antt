use Rattle.dtx_acquire.proofs.NearStream.{sent_acquired}
use Rattle.dtx_acquire.proofs.laws.a_small_error_moves_nothing.Goals as goal

pub returns : goal.returns
returns c = sent_acquired
