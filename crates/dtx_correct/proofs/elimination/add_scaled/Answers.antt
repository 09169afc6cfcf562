use Rattle.std.proofs.Common.{arith}
use Rattle.dtx_correct.proofs.Sums.{sums_scaled}
use Rattle.dtx_correct.proofs.elimination.add_scaled.Goals as goal

pub returns : goal.returns
returns c =
    sums_scaled c.loop-i.vector c.args.vector.now c.args.other.now c.args.factor.0 c.loop-i.auto.vector c.requires
    (λ k l. c.loop-i.invariant.done k (omega arith))
