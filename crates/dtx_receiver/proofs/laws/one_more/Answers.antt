use Rattle.dtx_receiver.proofs.CountingLemmas.{no_segments, runs_more}
use Rattle.dtx_receiver.proofs.laws.one_more.Goals as goal

pub returns-clause-none : goal.returns-clause-none
returns-clause-none c = no_segments

pub returns-clause-count : goal.returns-clause-count
returns-clause-count c = runs_more
