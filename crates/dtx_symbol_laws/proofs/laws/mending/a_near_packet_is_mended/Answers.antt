use Rattle.dtx_symbol_laws.proofs.MendedBackLemmas.{packet_mended}
use Rattle.dtx_symbol_laws.proofs.laws.mending.a_near_packet_is_mended.Goals as goal

pub returns : goal.returns
returns c = packet_mended
