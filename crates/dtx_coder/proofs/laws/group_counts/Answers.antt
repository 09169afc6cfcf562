use Rattle.dtx_coder.proofs.KeptLemmas.{length-segments_of, group_segment}
use Rattle.dtx_coder.proofs.laws.group_counts.Goals as goal

pub returns-clause-segments : goal.returns-clause-segments
returns-clause-segments c = length-segments_of

pub returns-clause-long : goal.returns-clause-long
returns-clause-long c = group_segment
