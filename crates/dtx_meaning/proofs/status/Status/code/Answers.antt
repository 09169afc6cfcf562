use Rattle.std.proofs.Common.{rules}
use Rattle.dtx_meaning.proofs.status.Status.code.Goals as goal

pub returns-in-Same : goal.returns-in-Same
returns-in-Same c = search rules
