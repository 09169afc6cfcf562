use Rattle.std.proofs.Common.{arith}
use Rattle.std.proofs.lemmas.Grind.{common_steps}
use Rattle.dtx_engine.proofs.ZeroBytes.{zeros_of_made}
use Rattle.dtx_engine.proofs.zeros.write_made.Goals as goal

pub returns-in-Err-clause-written : goal.returns-in-Err-clause-written
returns-in-Err-clause-written g c = grind (arith, common_steps, zeros_of_made)
