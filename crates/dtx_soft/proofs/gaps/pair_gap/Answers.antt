use Rattle.std.proofs.Common.{arith}
use Rattle.std.proofs.lemmas.Int.{ints}
use Rattle.dtx_soft.proofs.gaps.pair_gap.Goals as goal

pub number-requires : goal.number-requires
number-requires g c = let w = g.met.T.Width.wide in omega (arith, ints)

pub minus-requires : goal.minus-requires
minus-requires g c = let w = g.met.T.Width.wide in omega (arith, ints)
