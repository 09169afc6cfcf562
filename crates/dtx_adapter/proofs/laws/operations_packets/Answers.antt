use Rattle.dtx_adapter.proofs.ReadingsLemmas.{placeholder_reads, others_stay, said_states}
use Rattle.dtx_adapter.proofs.laws.operations_packets.Goals as goal

pub returns-clause-read : goal.returns-clause-read
returns-clause-read c = placeholder_reads

pub returns-clause-others : goal.returns-clause-others
returns-clause-others c = others_stay

pub returns-clause-states : goal.returns-clause-states
returns-clause-states c = said_states
