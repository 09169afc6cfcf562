use Rattle.dtx_level.proofs.Growing.{measured_in_parts}
use Rattle.dtx_level.proofs.laws.all_syncs_are_measured.Goals as goal

pub returns : goal.returns
returns c = measured_in_parts
