use Rattle.std.proofs.Common.{arith}
use Rattle.std.proofs.lemmas.Int.{ints}
use Rattle.dtx_soft.proofs.gaps.units_of.Goals as goal

pub number-requires-6 : goal.number-requires-6
number-requires-6 g c = let w = g.met.T.Width.wide in omega (arith, ints)

pub returns-clause-units : goal.returns-clause-units
returns-clause-units g c = record {
  scale = c.requires.scale;
  two = omega (arith, ints);
  two_below = omega (arith, ints);
  four = omega (arith, ints);
  four_below = omega (arith, ints);
  twelve = omega (arith, ints);
  twelve_below = omega (arith, ints);
}
