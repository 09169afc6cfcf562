use Rattle.dtx_chain.proofs.ReceivedLemmas.{all_whole}
use Rattle.dtx_chain.proofs.laws.received_packets_are_whole.Goals as goal

pub returns : goal.returns
returns c = all_whole
