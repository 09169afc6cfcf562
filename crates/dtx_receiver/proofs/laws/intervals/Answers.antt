use Rattle.dtx_receiver.proofs.IntervalsLemmas.{are_runs, only_runs, no_runs}
use Rattle.dtx_receiver.proofs.laws.intervals.Goals as goal

pub returns-clause-are : goal.returns-clause-are
returns-clause-are c = are_runs

pub returns-clause-only : goal.returns-clause-only
returns-clause-only c = only_runs

pub returns-clause-none : goal.returns-clause-none
returns-clause-none c = no_runs
