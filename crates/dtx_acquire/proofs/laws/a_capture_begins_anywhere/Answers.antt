use Rattle.dtx_acquire.proofs.AcquiredLemmas.{same_behind}
use Rattle.dtx_acquire.proofs.laws.a_capture_begins_anywhere.Goals as goal

pub returns : goal.returns
returns c = same_behind
