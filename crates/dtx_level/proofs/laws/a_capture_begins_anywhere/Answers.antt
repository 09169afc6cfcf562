use Rattle.dtx_level.proofs.Fronts.{later_is}
use Rattle.dtx_level.proofs.laws.a_capture_begins_anywhere.Goals as goal

pub returns : goal.returns
returns c = later_is
