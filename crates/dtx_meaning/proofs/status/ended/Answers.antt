use Rattle.std.proofs.Common.{rules}
use Rattle.dtx_meaning.proofs.status.ended.Goals as goal

pub returns : goal.returns
returns c = search rules
