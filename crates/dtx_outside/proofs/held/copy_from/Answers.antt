use Rattle.std.proofs.Common.{rules}
use Rattle.dtx_outside.proofs.held.copy_from.Goals as goal

pub returns-then-place-len-clause-gives : goal.returns-then-place-len-clause-gives
returns-then-place-len-clause-gives c = search rules
