use Rattle.dtx_galois.proofs.ValuesLemmas.{value_sums, value_scaled}
use Rattle.dtx_galois.proofs.laws.linear.Goals as goal

pub returns-clause-sum : goal.returns-clause-sum
returns-clause-sum c = value_sums

pub returns-clause-multiple : goal.returns-clause-multiple
returns-clause-multiple c = value_scaled
