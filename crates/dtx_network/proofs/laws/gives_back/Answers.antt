use Rattle.dtx_network.proofs.Back.{back}
use Rattle.dtx_network.proofs.laws.gives_back.Goals as goal

pub returns : goal.returns
returns c = back
