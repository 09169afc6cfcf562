use Rattle.dtx_network.proofs.Whole.{headline}
use Rattle.dtx_network.proofs.laws.headline.Goals as goal

pub returns : goal.returns
returns c = headline
