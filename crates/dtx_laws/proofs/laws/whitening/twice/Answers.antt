use Rattle.dtx_laws.proofs.WhiteningLemmas.{whitened_twice}
use Rattle.dtx_laws.proofs.laws.whitening.twice.Goals as goal

pub returns : goal.returns
returns c = whitened_twice
