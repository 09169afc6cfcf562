use Rattle.std.proofs.Common.{arith}
use Rattle.std.proofs.lemmas.Grind.{common_steps}
use Rattle.dtx_engine.proofs.StagesLemmas.{where_told}
use Rattle.dtx_engine.proofs.carrying.carry_out.Goals as goal

pub returns-in-Err : goal.returns-in-Err
returns-in-Err g c = grind (arith, common_steps, where_told)
