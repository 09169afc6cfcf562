use Rattle.dtx_coder.proofs.BatchesLemmas.{stream_coded, stream_on}
use Rattle.dtx_coder.proofs.laws.batches.next_of_stream.Goals as goal

pub returns-clause-coded : goal.returns-clause-coded
returns-clause-coded c = stream_coded

pub returns-clause-ahead : goal.returns-clause-ahead
returns-clause-ahead c = stream_on
