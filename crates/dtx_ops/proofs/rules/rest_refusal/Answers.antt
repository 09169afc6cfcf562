use Rattle.std.proofs.Common.{rules}
use Rattle.dtx_ops.proofs.rules.rest_refusal.Goals as goal

pub returns-else-not-is_blank : goal.returns-else-not-is_blank
returns-else-not-is_blank c = search rules
