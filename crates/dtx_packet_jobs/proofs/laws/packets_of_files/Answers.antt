use Rattle.dtx_forms.proofs.FilePacketsLemmas.{length-packets_of, long-packets_of}
use Rattle.dtx_packet_jobs.proofs.laws.packets_of_files.Goals as goal

pub returns-clause-long : goal.returns-clause-long
returns-clause-long c = long-packets_of

pub returns-clause-count : goal.returns-clause-count
returns-clause-count c = length-packets_of
