use Rattle.dtx_acquire.proofs.AcquiredLemmas.{all_is_acquired}
use Rattle.dtx_acquire.proofs.laws.all_is_acquired.Goals as goal

pub returns : goal.returns
returns c = all_is_acquired
