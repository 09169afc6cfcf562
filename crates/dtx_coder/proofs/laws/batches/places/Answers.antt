use Rattle.dtx_coder.proofs.BatchesLemmas.{ahead_place}
use Rattle.dtx_coder.proofs.laws.batches.places.Goals as goal

pub returns : goal.returns
returns c = ahead_place
