use Rattle.dtx_coder.proofs.CountsLemmas.{length-a53, a53_segment, length-a53_symbols}
use Rattle.dtx_coder.proofs.laws.counts.Goals as goal

pub returns-clause-segments : goal.returns-clause-segments
returns-clause-segments c = length-a53

pub returns-clause-long : goal.returns-clause-long
returns-clause-long c = a53_segment

pub returns-clause-symbols : goal.returns-clause-symbols
returns-clause-symbols c = length-a53_symbols
