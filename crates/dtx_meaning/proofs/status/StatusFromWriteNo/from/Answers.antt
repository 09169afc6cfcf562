use Rattle.std.proofs.Common.{rules}
use Rattle.dtx_meaning.proofs.status.StatusFromWriteNo.from.Goals as goal

pub returns-in-Failed : goal.returns-in-Failed
returns-in-Failed c = search rules
