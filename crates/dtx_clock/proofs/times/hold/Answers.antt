use Rattle.std.proofs.Common.{arith, rules}
use Rattle.std.proofs.lemmas.Int.{ints}
use Rattle.dtx_clock.proofs.times.hold.Goals as goal

pub returns-then-left-lt0 : goal.returns-then-left-lt0
returns-then-left-lt0 c = omega (arith, ints, c.if-left-lt0.true)

pub returns-else-left-lt0 : goal.returns-else-left-lt0
returns-else-left-lt0 c = search rules
