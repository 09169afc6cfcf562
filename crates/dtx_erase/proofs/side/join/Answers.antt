use Rattle.std.proofs.Common.{arith}
use Rattle.std.proofs.lemmas.Grind.{elements}
use Rattle.dtx_erase.proofs.side.join.Goals as goal

pub returns : goal.returns
returns c = grind (arith, elements)
