use Rattle.std.proofs.Common.{rules}
use Rattle.dtx_schedule.proofs.event.changed_by.Goals as goal

pub returns-in-Flip : goal.returns-in-Flip
returns-in-Flip c = search rules

pub returns-in-Lie : goal.returns-in-Lie
returns-in-Lie c = search rules
