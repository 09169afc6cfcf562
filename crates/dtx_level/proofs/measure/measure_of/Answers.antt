use Rattle.std.proofs.Common.{arith, rules}
use Rattle.std.proofs.lemmas.Int.{ints, to_z-of_z}
use Rattle.dtx_level.specs.Measures.{constant_in_hundredths, gain_in_hundredths}
use Rattle.dtx_level.proofs.measure.measure_of.Goals as goal

pub returns-clause-gain : goal.returns-clause-gain
unfolding gain_in_hundredths
returns-clause-gain c = first_of (search rules, grind (arith, to_z-of_z), grind (arith, ints, to_z-of_z))

pub returns-clause-constant : goal.returns-clause-constant
unfolding constant_in_hundredths
returns-clause-constant c = first_of (search rules, grind (arith, to_z-of_z), grind (arith, ints, to_z-of_z))
