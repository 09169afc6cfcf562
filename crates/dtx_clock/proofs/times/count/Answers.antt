use Rattle.std.proofs.Common.{arith}
use Rattle.std.proofs.lemmas.Int.{ints}
use Rattle.dtx_clock.proofs.times.count.Goals as goal

pub returns : goal.returns
returns c =
    omega (arith, ints, c.segment.ensures, c.requires.stamp, c.requires.max, c.ranges.offset)
