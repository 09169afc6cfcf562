use Rattle.std.proofs.Common.{rules}
use Rattle.dtx_erase.proofs.mark_side.as_mark.Goals as goal

pub returns-then-symbol-eqminus128 : goal.returns-then-symbol-eqminus128
returns-then-symbol-eqminus128 c = search rules
