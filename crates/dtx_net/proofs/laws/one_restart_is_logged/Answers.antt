use Rattle.dtx_net.proofs.GrowsLemmas.{segments_restarted, lines_restarted}
use Rattle.dtx_net.proofs.laws.one_restart_is_logged.Goals as goal

pub returns-clause-segments : goal.returns-clause-segments
returns-clause-segments c = segments_restarted

pub returns-clause-lines : goal.returns-clause-lines
returns-clause-lines c = lines_restarted
