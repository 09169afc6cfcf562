use Rattle.dtx_galois.proofs.RootsLemmas.{fewer_roots}
use Rattle.dtx_galois.proofs.laws.few_roots.Goals as goal

pub returns : goal.returns
returns c = fewer_roots
