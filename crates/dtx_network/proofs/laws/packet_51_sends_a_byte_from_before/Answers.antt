use Rattle.dtx_network.proofs.TooFew.{another_before}
use Rattle.dtx_network.proofs.laws.packet_51_sends_a_byte_from_before.Goals as goal

pub returns : goal.returns
returns c = another_before
