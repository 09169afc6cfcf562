use Rattle.std.proofs.Common.{arith}
use Rattle.dtx_galois.proofs.BytesLemmas.{AreBytes-from_places}
use Rattle.dtx_rs.proofs.register.divide.Goals as goal

pub returns-clause-bytes : goal.returns-clause-bytes
returns-clause-bytes c = AreBytes-from_places c.args.head.now (λ i l. omega (arith, c.type_inv.head i))
