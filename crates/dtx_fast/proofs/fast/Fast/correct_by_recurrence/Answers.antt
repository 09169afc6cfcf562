use Rattle.std.proofs.Common.{rules}
use Rattle.dtx_fast.proofs.fast.Fast.correct_by_recurrence.Goals as goal

pub returns-clause-answer : goal.returns-clause-answer
returns-clause-answer g c = search rules
