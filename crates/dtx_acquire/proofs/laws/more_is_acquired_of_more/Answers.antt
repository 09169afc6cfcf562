use Rattle.dtx_acquire.proofs.AcquiredLemmas.{so_far_grows}
use Rattle.dtx_acquire.proofs.laws.more_is_acquired_of_more.Goals as goal

pub returns : goal.returns
returns c = so_far_grows
