use Rattle.dtx_level.proofs.WholeFields.{whole_fields}
use Rattle.dtx_level.proofs.laws.whole_fields_are_levelled.Goals as goal

pub returns : goal.returns
returns c = whole_fields
