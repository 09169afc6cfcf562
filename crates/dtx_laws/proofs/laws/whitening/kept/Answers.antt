use Rattle.dtx_laws.proofs.WhiteningLemmas.{length-whitened, bytes_whitened}
use Rattle.dtx_laws.proofs.laws.whitening.kept.Goals as goal

pub returns-clause-long : goal.returns-clause-long
returns-clause-long c = length-whitened

pub returns-clause-are_bytes : goal.returns-clause-are_bytes
returns-clause-are_bytes c = bytes_whitened
