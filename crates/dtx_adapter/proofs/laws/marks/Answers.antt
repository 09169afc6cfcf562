use Rattle.dtx_adapter.proofs.ReadingsLemmas.{sync_fed}
use Rattle.dtx_adapter.proofs.laws.marks.Goals as goal

pub returns : goal.returns
returns c = sync_fed
