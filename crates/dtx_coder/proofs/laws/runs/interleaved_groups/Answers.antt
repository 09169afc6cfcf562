use Rattle.dtx_coder.proofs.AlignLemmas.{in_turn}
use Rattle.dtx_coder.proofs.RunsLemmas.{branches_groups, length-bytes_of_groups, coded_packets}
use Rattle.dtx_coder.proofs.laws.runs.interleaved_groups.Goals as goal

pub returns-clause-bytes : goal.returns-clause-bytes
returns-clause-bytes c = in_turn

pub returns-clause-branches : goal.returns-clause-branches
returns-clause-branches c = branches_groups

pub returns-clause-long : goal.returns-clause-long
returns-clause-long c = length-bytes_of_groups

pub returns-clause-packets : goal.returns-clause-packets
returns-clause-packets c = coded_packets
