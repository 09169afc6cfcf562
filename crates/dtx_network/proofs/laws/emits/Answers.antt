use Rattle.dtx_network.proofs.Emitting.{emits}
use Rattle.dtx_network.proofs.laws.emits.Goals as goal

pub returns : goal.returns
returns c = emits
