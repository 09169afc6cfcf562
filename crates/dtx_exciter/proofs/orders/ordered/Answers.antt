use Rattle.std.proofs.Common.{rules}
use Rattle.dtx_exciter.proofs.orders.ordered.Goals as goal

pub returns-in-Ok-clause-order : goal.returns-in-Ok-clause-order
returns-in-Ok-clause-order c = search rules
