use Rattle.dtx_network.proofs.Emitting.{apart}
use Rattle.dtx_network.proofs.laws.apart.Goals as goal

pub returns : goal.returns
returns c = apart
