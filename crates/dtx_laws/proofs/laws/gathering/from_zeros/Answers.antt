use Rattle.dtx_laws.proofs.GatheringLemmas.{zeros_calls}
use Rattle.dtx_laws.proofs.laws.gathering.from_zeros.Goals as goal

pub returns : goal.returns
returns c = zeros_calls
