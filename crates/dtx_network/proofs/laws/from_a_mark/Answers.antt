use Rattle.dtx_network.proofs.FromMark.{segments_from, lines_from, no_segments, no_lines}
use Rattle.dtx_network.proofs.laws.from_a_mark.Goals as goal

pub returns-clause-segments : goal.returns-clause-segments
returns-clause-segments c = segments_from

pub returns-clause-lines : goal.returns-clause-lines
returns-clause-lines c = lines_from

pub returns-clause-no_segments : goal.returns-clause-no_segments
returns-clause-no_segments c = no_segments

pub returns-clause-no_lines : goal.returns-clause-no_lines
returns-clause-no_lines c = no_lines
