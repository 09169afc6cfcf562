use Rattle.dtx_coder.proofs.LevelsLemmas.{levels_from, states_from}
use Rattle.dtx_coder.proofs.StreamLemmas.{four_from}
use Rattle.dtx_coder.proofs.laws.goes_on.Goals as goal

pub returns-clause-levels : goal.returns-clause-levels
returns-clause-levels c = levels_from

pub returns-clause-states : goal.returns-clause-states
returns-clause-states c = states_from

pub returns-clause-segments : goal.returns-clause-segments
returns-clause-segments c = four_from
