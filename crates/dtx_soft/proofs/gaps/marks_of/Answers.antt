use Rattle.std.proofs.Common.{arith}
use Rattle.std.proofs.lemmas.Int.{ints}
use Rattle.dtx_soft.proofs.gaps.marks_of.Goals as goal

pub plus-requires : goal.plus-requires
plus-requires g c = let w = g.met.T.Width.wide in omega (arith, ints)

pub plus-requires-2 : goal.plus-requires-2
plus-requires-2 g c = let w = g.met.T.Width.wide in omega (arith, ints)
