use Rattle.std.proofs.Common.{rules}
use Rattle.dtx_plan.proofs.SoundPlans.{answer_damages}
use Rattle.dtx_plan.proofs.read.read_changes.Goals as goal

pub returns-clause-walk : goal.returns-clause-walk
returns-clause-walk c = search rules

pub returns-clause-sound : goal.returns-clause-sound
returns-clause-sound c = answer_damages c.args.bytes.now _ (returns-clause-walk c)
