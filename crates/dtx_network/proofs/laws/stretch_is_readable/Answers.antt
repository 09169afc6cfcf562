use Rattle.dtx_network.proofs.Readable.{readable}
use Rattle.dtx_network.proofs.laws.stretch_is_readable.Goals as goal

pub returns : goal.returns
returns c = readable
