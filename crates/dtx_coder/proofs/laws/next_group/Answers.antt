use Rattle.dtx_coder.proofs.NextLemmas.{next_segments, next_stands}
use Rattle.dtx_coder.proofs.laws.next_group.Goals as goal

pub returns-clause-stands : goal.returns-clause-stands
returns-clause-stands c = next_stands

pub returns-clause-segments : goal.returns-clause-segments
returns-clause-segments c = next_segments
