use Rattle.dtx_slice.proofs.LaneSteps.{positions, picked_small, turned_at}
use Rattle.dtx_slice.proofs.walk.turned.Goals as goal

pub returns-clause-lanes : goal.returns-clause-lanes
returns-clause-lanes c = λ p l. turned_at c.args.v p c.fits-v.0 l

pub returns-clause-small : goal.returns-clause-small
returns-clause-small c = picked_small c.args.v positions c.requires
