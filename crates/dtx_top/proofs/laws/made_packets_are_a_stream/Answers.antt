use Rattle.dtx_top.proofs.WorkedStream.{length-made, made_order, made_stream}
use Rattle.dtx_top.proofs.laws.made_packets_are_a_stream.Goals as goal

pub returns-clause-stream : goal.returns-clause-stream
returns-clause-stream c = made_stream

pub returns-clause-count : goal.returns-clause-count
returns-clause-count c = length-made

pub returns-clause-order : goal.returns-clause-order
returns-clause-order c = made_order
