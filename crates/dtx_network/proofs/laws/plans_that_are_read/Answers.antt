use Rattle.dtx_plan.proofs.WalksLemmas.{plan_sound, plan_transmitters}
use Rattle.dtx_network.proofs.laws.plans_that_are_read.Goals as goal

pub returns : goal.returns
returns c = λ bytes plan e. record { sound = plan_sound bytes plan e; transmitters = plan_transmitters bytes plan e }
