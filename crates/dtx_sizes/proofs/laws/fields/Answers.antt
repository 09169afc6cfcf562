use Rattle.std.proofs.Common.{refl}
use Rattle.dtx_sizes.proofs.laws.fields.Goals as goal

pub returns-clause-segments : goal.returns-clause-segments
returns-clause-segments c = refl
