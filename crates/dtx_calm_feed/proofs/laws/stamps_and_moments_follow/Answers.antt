use Rattle.dtx_calm_feed.proofs.Clocked.{moments_follow, stamps_follow}
use Rattle.dtx_calm_feed.proofs.laws.stamps_and_moments_follow.Goals as goal

pub returns-clause-stamps : goal.returns-clause-stamps
returns-clause-stamps c = stamps_follow

pub returns-clause-moments : goal.returns-clause-moments
returns-clause-moments c = moments_follow
