use Rattle.dtx_plan.proofs.WalksLemmas.{plan_sound, plan_transmitters}
use Rattle.dtx_plan.proofs.laws.plans_are_sound.Goals as goal

pub returns-clause-sound : goal.returns-clause-sound
returns-clause-sound c = plan_sound

pub returns-clause-transmitters : goal.returns-clause-transmitters
returns-clause-transmitters c = plan_transmitters
