use Rattle.std.proofs.Common.{arith}
use Rattle.dtx_trellis.proofs.LaneStepsLemmas.{doubled_at}
use Rattle.dtx_trellis.proofs.lanes.doubled.Goals as goal

pub returns-clause-levels : goal.returns-clause-levels
returns-clause-levels c = grind (arith, doubled_at)
