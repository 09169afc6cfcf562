use Rattle.dtx_level.proofs.Counts.{signs_counted}
use Rattle.dtx_level.proofs.laws.the_signs_are_counted.Goals as goal

pub returns : goal.returns
returns c = signs_counted
