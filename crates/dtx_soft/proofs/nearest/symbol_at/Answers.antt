use Rattle.std.proofs.Common.{arith}
use Rattle.std.proofs.lemmas.Int.{ints}
use Rattle.dtx_soft.specs.Paths.{symbol_at}
use Rattle.dtx_soft.proofs.SmallSquares.{multiple_most}
use Rattle.dtx_soft.proofs.nearest.symbol_at.Goals as goal

pub returns-clause-symbol : goal.returns-clause-symbol
unfolding symbol_at
returns-clause-symbol c = omega (arith, ints, multiple_most c.args.scale c.args.z c.requires.level, c.requires.scale)
