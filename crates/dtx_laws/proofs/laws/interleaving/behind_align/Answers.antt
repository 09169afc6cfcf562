use Rattle.dtx_laws.proofs.InterleavingLemmas.{behind_calls}
use Rattle.dtx_laws.proofs.laws.interleaving.behind_align.Goals as goal

pub returns : goal.returns
returns c = behind_calls
