use Rattle.std.proofs.Common.{arith, rules}
use Rattle.std.proofs.lemmas.Int.{ints, to_z-of_z}
use Rattle.dtx_level.specs.Levelled.{next_whole}
use Rattle.dtx_level.proofs.levels.next_whole.Goals as goal

pub returns : goal.returns
unfolding next_whole
returns c = first_of (search rules, grind (arith, to_z-of_z), grind (arith, ints, to_z-of_z))
