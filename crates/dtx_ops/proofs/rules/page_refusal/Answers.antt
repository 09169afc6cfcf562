use Rattle.std.proofs.Common.{rules}
use Rattle.dtx_ops.proofs.rules.page_refusal.Goals as goal

pub returns-else-count-most_entries-clause-paged : goal.returns-else-count-most_entries-clause-paged
returns-else-count-most_entries-clause-paged c = search rules
