use Rattle.dtx_trellis.proofs.LaneStepsLemmas.{turned_at}
use Rattle.dtx_trellis.proofs.lanes.turned.Goals as goal

pub returns-clause-lanes : goal.returns-clause-lanes
returns-clause-lanes c = λ p l. turned_at c.args.v p c.fits-v.0 l
