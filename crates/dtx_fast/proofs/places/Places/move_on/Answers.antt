use Rattle.std.proofs.Common.{arith}
use Rattle.dtx_fast.proofs.places.Places.move_on.Goals as goal

pub returns-clause-moved : goal.returns-clause-moved
returns-clause-moved c k l = c.loop-k.invariant.done k (omega (arith, l, c.loop-k-test.false))
