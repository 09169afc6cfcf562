use Rattle.std.proofs.Common.{arith}
use Rattle.dtx_rs.proofs.Sums.{sums_scaled}
use Rattle.dtx_rs.proofs.register.add_scaled.Goals as goal

pub returns : goal.returns
returns c =
    sums_scaled c.loop-i.register c.args.register.now c.args.divisor.now c.args.factor.0 c.loop-i.auto.register
    c.requires (λ k l. c.loop-i.invariant.done k (omega arith))
