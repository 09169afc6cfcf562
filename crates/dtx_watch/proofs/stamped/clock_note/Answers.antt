use Rattle.std.proofs.Common.{rules}
use Rattle.dtx_watch.proofs.stamped.clock_note.Goals as goal

pub returns-then-ops-before : goal.returns-then-ops-before
returns-then-ops-before c = search rules
