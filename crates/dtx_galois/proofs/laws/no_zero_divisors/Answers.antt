use Rattle.dtx_galois.proofs.FieldLemmas.{zero_factor}
use Rattle.dtx_galois.proofs.laws.no_zero_divisors.Goals as goal

pub returns : goal.returns
returns c = zero_factor
