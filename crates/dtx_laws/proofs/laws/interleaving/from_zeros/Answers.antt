use Rattle.dtx_laws.proofs.InterleavingLemmas.{zeros_calls}
use Rattle.dtx_laws.proofs.laws.interleaving.from_zeros.Goals as goal

pub returns : goal.returns
returns c = zeros_calls
