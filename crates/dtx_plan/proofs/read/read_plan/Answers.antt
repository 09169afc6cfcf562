use Rattle.std.proofs.Common.{rules}
use Rattle.dtx_plan.proofs.SoundPlans.{answer_sound, answer_net}
use Rattle.dtx_plan.proofs.read.read_plan.Goals as goal

pub returns-clause-walk : goal.returns-clause-walk
returns-clause-walk c = search rules

pub returns-clause-sound : goal.returns-clause-sound
returns-clause-sound c = answer_sound c.args.bytes.now _ (returns-clause-walk c)

pub returns-clause-net : goal.returns-clause-net
returns-clause-net c = answer_net c.args.bytes.now _ (returns-clause-walk c)
