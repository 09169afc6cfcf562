use Rattle.std.proofs.Common.{rules}
use Rattle.dtx_ops.specs.Fields.{paging_in}
use Rattle.dtx_ops.proofs.reading.paging.Goals as goal

pub returns-then-bytes-eq2 : goal.returns-then-bytes-eq2
unfolding paging_in
returns-then-bytes-eq2 c = search rules
