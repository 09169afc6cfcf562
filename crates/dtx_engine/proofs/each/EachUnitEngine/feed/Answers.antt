use Rattle.std.proofs.Common.{arith}
use Rattle.std.proofs.lemmas.Grind.{common_steps}
use Rattle.dtx_meaning.proofs.EachLemmas.{each_on}
use Rattle.dtx_engine.proofs.Units.{units_most, long_on}
use Rattle.dtx_engine.proofs.each.EachUnitEngine.feed.Goals as goal

pub change_all-requires-clause-most : goal.change_all-requires-clause-most
change_all-requires-clause-most g c = grind (arith, common_steps, units_most)

pub returns-clause-fed : goal.returns-clause-fed
returns-clause-fed g c = grind (arith, common_steps, long_on, each_on)
