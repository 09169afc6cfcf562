use Rattle.dtx_receiver.proofs.SplicingLemmas.{cut_packets, cut_received}
use Rattle.dtx_receiver.proofs.laws.cut.Goals as goal

pub returns-clause-packets : goal.returns-clause-packets
returns-clause-packets c = cut_packets

pub returns-clause-bytes : goal.returns-clause-bytes
returns-clause-bytes c = cut_received
