use Rattle.std.proofs.Common.{arith}
use Rattle.std.proofs.lemmas.Grind.{common_steps}
use Rattle.dtx_soft.specs.Paths.{squared}
use Rattle.dtx_soft.proofs.SmallSquares.{off_is, off_small, square_small}
use Rattle.dtx_soft.proofs.nearest.square.Goals as goal

pub returns-clause-square : goal.returns-clause-square
unfolding squared
returns-clause-square c = grind (arith, off_is)

pub returns-clause-small : goal.returns-clause-small
returns-clause-small c = grind (arith, common_steps, square_small, off_small)
