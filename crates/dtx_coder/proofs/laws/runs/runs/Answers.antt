use Rattle.dtx_coder.proofs.RunsLemmas.{segments_run, states_run, last_run}
use Rattle.dtx_coder.proofs.laws.runs.runs.Goals as goal

pub returns-clause-segments : goal.returns-clause-segments
returns-clause-segments c = segments_run

pub returns-clause-states : goal.returns-clause-states
returns-clause-states c = states_run

pub returns-clause-last : goal.returns-clause-last
returns-clause-last c = last_run
