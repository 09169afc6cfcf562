use Rattle.std.proofs.Common.{rules}
use Rattle.dtx_meaning.proofs.status.of_plan.Goals as goal

pub returns-in-Memory : goal.returns-in-Memory
returns-in-Memory c = search rules
