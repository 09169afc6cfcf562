use Rattle.std.proofs.Common.{rules}
use Rattle.dtx_exciter.proofs.orders.is_flushed.Goals as goal

pub returns-else-before : goal.returns-else-before
returns-else-before c = search rules
