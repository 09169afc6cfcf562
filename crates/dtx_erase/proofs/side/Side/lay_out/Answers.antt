use Rattle.std.proofs.Common.{arith}
use Rattle.dtx_receiver.proofs.GroupedLemmas.{flat}
use Rattle.dtx_erase.proofs.Gathered.{laid_behind}
use Rattle.dtx_erase.proofs.side.Side.lay_out.Goals as goal

pub returns-clause-bytes : goal.returns-clause-bytes
returns-clause-bytes c = grind (arith, laid_behind, flat, c.put.ensures.most, c.put.ensures.bytes)
