use Rattle.std.proofs.Common.{arith}
use Rattle.dtx_trellis.proofs.RoundsLemmas.{first_state}
use Rattle.dtx_trellis.proofs.LaneRoundsLemmas.{first_coder, state_low}
use Rattle.dtx_trellis.proofs.walk.laid_out.Goals as goal

pub returns : goal.returns
returns c = grind (arith, state_low, first_coder, first_state)
