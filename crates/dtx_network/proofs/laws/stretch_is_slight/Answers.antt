use Rattle.dtx_network.proofs.Back.{received_alone}
use Rattle.dtx_network.proofs.laws.stretch_is_slight.Goals as goal

pub returns : goal.returns
returns c = received_alone
