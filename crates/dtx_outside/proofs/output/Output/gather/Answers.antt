use Rattle.std.proofs.Common.{rules}
use Rattle.dtx_outside.proofs.output.Output.gather.Goals as goal

pub returns : goal.returns
returns g c = search rules
