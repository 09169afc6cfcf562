use Rattle.dtx_whiten.proofs.PacketsLemmas.{randomized_whitened, get_or-randomized_stream}
use Rattle.dtx_whiten.proofs.laws.packets.Goals as goal

pub returns-clause-packet : goal.returns-clause-packet
returns-clause-packet c = randomized_whitened

pub returns-clause-stream : goal.returns-clause-stream
returns-clause-stream c = get_or-randomized_stream
