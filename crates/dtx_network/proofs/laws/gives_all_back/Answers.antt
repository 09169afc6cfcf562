use Rattle.dtx_network.proofs.Back.{all_given_back}
use Rattle.dtx_network.proofs.laws.gives_all_back.Goals as goal

pub returns : goal.returns
returns c = all_given_back
