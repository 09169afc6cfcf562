use Rattle.std.proofs.lemmas.Simd.{length-swz_l}
use Rattle.std.proofs.Common.{w8, ◌∙◌}
use Rattle.dtx_trellis.proofs.LaneStepsLemmas.{look_up_ok, looked_up_at}
use Rattle.dtx_trellis.proofs.lanes.looked_up.Goals as goal

pub swizzle : goal.swizzle
swizzle c = look_up_ok c.args.lanes c.requires

pub returns-clause-long : goal.returns-clause-long
returns-clause-long c = length-swz_l w8 16 c.args.table 0 c.args.lanes ∙ c.requires.long

pub returns-clause-lanes : goal.returns-clause-lanes
returns-clause-lanes c = λ p l. looked_up_at c.args.table c.args.lanes p c.requires l
