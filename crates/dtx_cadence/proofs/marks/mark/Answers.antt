use Rattle.std.proofs.Common.{rules}
use Rattle.dtx_cadence.proofs.marks.mark.Goals as goal

pub returns : goal.returns
returns c = search rules
