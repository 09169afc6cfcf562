use Rattle.std.proofs.Common.{arith}
use Rattle.dtx_forms.proofs.StagesLemmas.{loop_staged}
use Rattle.dtx_forms.proofs.logging.make_both.Goals as goal

pub returns-in-Ok-clause-stages : goal.returns-in-Ok-clause-stages
returns-in-Ok-clause-stages g c = grind (arith, loop_staged)
