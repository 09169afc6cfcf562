use Rattle.dtx_trellis.proofs.LaneStepsLemmas.{look_up_ok, looked_up_at}
use Rattle.dtx_slice.proofs.LaneSteps.{levels_asked, long_shares}
use Rattle.dtx_slice.proofs.walk.shares.Goals as goal

pub swizzle : goal.swizzle
swizzle c = look_up_ok c.args.levels (levels_asked c.args.levels c.fits-levels.0 c.requires)

pub returns-clause-long : goal.returns-clause-long
returns-clause-long c = long_shares c.args.table c.args.levels c.fits-levels.0

pub returns-clause-shares : goal.returns-clause-shares
returns-clause-shares c = λ p l.
    looked_up_at c.args.table c.args.levels p (levels_asked c.args.levels c.fits-levels.0 c.requires) l
