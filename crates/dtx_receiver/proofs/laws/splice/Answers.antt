use Rattle.dtx_receiver.proofs.SplicingLemmas.{behind_none, behind_ended, spliced_runs, spliced_packets}
use Rattle.dtx_receiver.proofs.laws.splice.Goals as goal

pub returns-clause-none : goal.returns-clause-none
returns-clause-none c = behind_none

pub returns-clause-ended : goal.returns-clause-ended
returns-clause-ended c = behind_ended

pub returns-clause-runs : goal.returns-clause-runs
returns-clause-runs c = spliced_runs

pub returns-clause-packets : goal.returns-clause-packets
returns-clause-packets c = spliced_packets
