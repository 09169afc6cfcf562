use Rattle.std.proofs.Common.{◌-◌, arith, rules}
use Rattle.dtx_trellis.proofs.LaneRoundsLemmas.{number_end}
use Rattle.dtx_trellis.proofs.walk.numbers.Goals as goal

pub loop-e-preserved : goal.loop-e-preserved
loop-e-preserved c = search rules

pub returns-clause-numbers : goal.returns-clause-numbers
returns-clause-numbers c = grind (arith, number_end)
