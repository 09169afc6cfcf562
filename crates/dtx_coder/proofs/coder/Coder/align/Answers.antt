use Rattle.std.proofs.Common.{rules}
use Rattle.dtx_coder.proofs.coder.Coder.align.Goals as goal

pub returns : goal.returns
returns c = search rules
