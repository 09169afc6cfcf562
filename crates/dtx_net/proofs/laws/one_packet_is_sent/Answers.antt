use Rattle.dtx_net.proofs.GrowsLemmas.{segments_given, lines_given}
use Rattle.dtx_net.proofs.laws.one_packet_is_sent.Goals as goal

pub returns-clause-segments : goal.returns-clause-segments
returns-clause-segments c = segments_given

pub returns-clause-lines : goal.returns-clause-lines
returns-clause-lines c = lines_given
