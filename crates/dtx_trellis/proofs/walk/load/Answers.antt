use Rattle.std.proofs.Common.{arith}
use Rattle.dtx_trellis.proofs.StoresLemmas.{loaded}
use Rattle.dtx_trellis.proofs.walk.load.Goals as goal

pub returns-clause-bytes : goal.returns-clause-bytes
returns-clause-bytes c = grind (arith, loaded)
