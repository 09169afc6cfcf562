use Rattle.dtx_top.proofs.SegmentsBack.{whole_segments_sent, segments_of_file}
use Rattle.dtx_top.proofs.laws.segments_read_back.Goals as goal

pub returns-clause-count : goal.returns-clause-count
returns-clause-count c = whole_segments_sent

pub returns-clause-segments : goal.returns-clause-segments
returns-clause-segments c = segments_of_file
