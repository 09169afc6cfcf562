use Rattle.std.proofs.Common.{rules}
use Rattle.dtx_cadence.proofs.anchor.moved_on.Goals as goal

pub returns-then-lock-eq0 : goal.returns-then-lock-eq0
returns-then-lock-eq0 c = search rules

pub returns-else-lock-eq0 : goal.returns-else-lock-eq0
returns-else-lock-eq0 c = search rules
