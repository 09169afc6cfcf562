use Rattle.dtx_network.proofs.Stretches.{stretch_is}
use Rattle.dtx_network.proofs.laws.stretch_of_a_feed.Goals as goal

pub returns : goal.returns
returns c = stretch_is
