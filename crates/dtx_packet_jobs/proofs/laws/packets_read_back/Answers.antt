use Rattle.dtx_packet_jobs.proofs.PacketFileLemmas.{packets_of-bytes, whole_packets-bytes}
use Rattle.dtx_packet_jobs.proofs.laws.packets_read_back.Goals as goal

pub returns-clause-packets : goal.returns-clause-packets
returns-clause-packets c = packets_of-bytes

pub returns-clause-count : goal.returns-clause-count
returns-clause-count c = whole_packets-bytes
