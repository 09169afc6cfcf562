use Rattle.std.proofs.Common.{arith}
use Rattle.dtx_galois.specs.Field.{pow}
use Rattle.dtx_galois.proofs.FieldLemmas.{mul_inverse, pow_small}
use Rattle.dtx_galois.proofs.laws.inverse.Goals as goal

pub returns-clause-product : goal.returns-clause-product
returns-clause-product c = λ a p l. (pow a 254, pow_small a 254, mul_inverse a (omega arith) l)
