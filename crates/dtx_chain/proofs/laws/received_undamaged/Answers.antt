use Rattle.dtx_chain.proofs.PlacesLemmas.{one_run}
use Rattle.dtx_chain.proofs.UndamagedLemmas.{good_packets, packets_back}
use Rattle.dtx_chain.proofs.laws.received_undamaged.Goals as goal

pub returns-clause-run : goal.returns-clause-run
returns-clause-run c = one_run

pub returns-clause-good : goal.returns-clause-good
returns-clause-good c = good_packets

pub returns-clause-packets : goal.returns-clause-packets
returns-clause-packets c = packets_back
