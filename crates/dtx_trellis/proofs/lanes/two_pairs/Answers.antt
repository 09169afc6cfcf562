use Rattle.std.proofs.Common.{arith}
use Rattle.dtx_trellis.proofs.LaneStepsLemmas.{at_zip, both_at, long_zip}
use Rattle.dtx_trellis.proofs.lanes.two_pairs.Goals as goal

pub returns-clause-long : goal.returns-clause-long
returns-clause-long c = grind (arith, long_zip)

pub returns-clause-lanes : goal.returns-clause-lanes
returns-clause-lanes c = grind (arith, at_zip, both_at)
