use Rattle.std.proofs.Common.{refl}
use Rattle.dtx_sizes.proofs.laws.bytes.Goals as goal

pub returns-clause-filling : goal.returns-clause-filling
returns-clause-filling c = refl
