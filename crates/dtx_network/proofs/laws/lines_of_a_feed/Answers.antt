use Rattle.dtx_network.proofs.Stretches.{lines_are}
use Rattle.dtx_network.proofs.laws.lines_of_a_feed.Goals as goal

pub returns : goal.returns
returns c = lines_are
