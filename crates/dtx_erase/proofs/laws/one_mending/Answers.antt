use Rattle.dtx_erase.proofs.MendingLemmas.{one_mending}
use Rattle.dtx_erase.proofs.laws.one_mending.Goals as goal

pub returns : goal.returns
returns c = one_mending
