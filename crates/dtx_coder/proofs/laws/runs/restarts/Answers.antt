use Rattle.dtx_coder.proofs.RunsLemmas.{segments_restart, states_restart}
use Rattle.dtx_coder.proofs.laws.runs.restarts.Goals as goal

pub returns-clause-segments : goal.returns-clause-segments
returns-clause-segments c = segments_restart

pub returns-clause-states : goal.returns-clause-states
returns-clause-states c = states_restart
