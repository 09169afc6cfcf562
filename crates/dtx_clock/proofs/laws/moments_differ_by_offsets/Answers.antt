use Rattle.dtx_clock.proofs.MomentsLemmas.{moments_differ}
use Rattle.dtx_clock.proofs.laws.moments_differ_by_offsets.Goals as goal

pub returns : goal.returns
returns c = moments_differ
