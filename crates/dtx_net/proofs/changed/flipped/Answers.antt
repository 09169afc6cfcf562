use Rattle.std.proofs.Common.{rules}
use Rattle.dtx_net.proofs.changed.flipped.Goals as goal

pub returns : goal.returns
returns c = search rules
