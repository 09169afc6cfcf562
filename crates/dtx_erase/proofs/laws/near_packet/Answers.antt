use Rattle.dtx_erase.proofs.UnmarkedLemmas.{mended_packet}
use Rattle.dtx_erase.proofs.laws.near_packet.Goals as goal

pub returns : goal.returns
returns c = mended_packet
