use Rattle.std.proofs.Common.{arith}
use Rattle.dtx_rs.proofs.Products.{multiplied_by_places}
use Rattle.dtx_rs.proofs.divisor.multiply.Goals as goal

pub returns : goal.returns
returns c = multiplied_by_places c.loop-i.divisor c.args.divisor.now c.args.root.0 c.loop-i.auto.divisor
    (λ k l. c.loop-i.invariant.done k (omega arith))
