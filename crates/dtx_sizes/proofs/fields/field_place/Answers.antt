use Rattle.std.proofs.Common.{rules}
use Rattle.dtx_sizes.proofs.fields.field_place.Goals as goal

pub returns : goal.returns
returns c = search rules
