use Rattle.std.proofs.Common.{rules}
use Rattle.dtx_outside.proofs.refusals.Refusals.note_write.Goals as goal

pub returns-then-eq-clause-counted : goal.returns-then-eq-clause-counted
returns-then-eq-clause-counted c = search rules
