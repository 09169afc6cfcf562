use Rattle.std.proofs.Common.{rules}
use Rattle.dtx_make.proofs.laying.covered.Goals as goal

pub returns : goal.returns
returns c = search rules
