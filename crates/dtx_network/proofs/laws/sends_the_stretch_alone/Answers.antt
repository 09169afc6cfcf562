use Rattle.dtx_network.proofs.Meets.{sends_alone}
use Rattle.dtx_network.proofs.laws.sends_the_stretch_alone.Goals as goal

pub returns : goal.returns
returns c = sends_alone
