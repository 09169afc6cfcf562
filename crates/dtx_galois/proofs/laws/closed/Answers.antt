use Rattle.std.specs.Int.Bits.{xor_lt}
use Rattle.dtx_galois.proofs.FieldLemmas.{mul_small, pow_small}
use Rattle.dtx_galois.proofs.ValuesLemmas.{value_small}
use Rattle.dtx_galois.proofs.laws.closed.Goals as goal

pub returns-clause-sum : goal.returns-clause-sum
returns-clause-sum c = xor_lt 8

pub returns-clause-product : goal.returns-clause-product
returns-clause-product c = mul_small

pub returns-clause-power : goal.returns-clause-power
returns-clause-power c = pow_small

pub returns-clause-value : goal.returns-clause-value
returns-clause-value c = value_small
