use Rattle.dtx_soft.proofs.MovedLemmas.{distance_is}
use Rattle.dtx_soft.proofs.SoftenedLemmas.{cost_is}
use Rattle.dtx_soft.proofs.laws.cost_of_softening.Goals as goal

pub returns-clause-coders : goal.returns-clause-coders
returns-clause-coders c = cost_is

pub returns-clause-segments : goal.returns-clause-segments
returns-clause-segments c = distance_is
