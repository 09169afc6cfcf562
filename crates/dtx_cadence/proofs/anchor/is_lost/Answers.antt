use Rattle.std.proofs.Common.{rules}
use Rattle.dtx_cadence.proofs.anchor.is_lost.Goals as goal

pub returns-then-not-is_mark : goal.returns-then-not-is_mark
returns-then-not-is_mark c = search rules
