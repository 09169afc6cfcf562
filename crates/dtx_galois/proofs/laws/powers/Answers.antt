use Rattle.dtx_galois.proofs.PowersLemmas.{pow_add}
use Rattle.dtx_galois.proofs.laws.powers.Goals as goal

pub returns : goal.returns
returns c = pow_add
