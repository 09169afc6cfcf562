use Rattle.dtx_top.proofs.UnderWay.{under_way}
use Rattle.dtx_top.proofs.laws.files_of_a_network_under_way.Goals as goal

pub returns : goal.returns
returns c = under_way
