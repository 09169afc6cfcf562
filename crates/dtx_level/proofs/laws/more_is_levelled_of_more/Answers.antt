use Rattle.dtx_level.proofs.Growing.{grows}
use Rattle.dtx_level.proofs.laws.more_is_levelled_of_more.Goals as goal

pub returns : goal.returns
returns c = grows
