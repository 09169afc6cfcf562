use Rattle.dtx_cadence.proofs.AnchoredLemmas.{in_step_at_third, anchored}
use Rattle.dtx_cadence.proofs.laws.from_the_third_mark.Goals as goal

pub returns-clause-third : goal.returns-clause-third
returns-clause-third c = in_step_at_third

pub returns-clause-holds : goal.returns-clause-holds
returns-clause-holds c = anchored
