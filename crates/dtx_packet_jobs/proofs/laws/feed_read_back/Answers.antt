use Rattle.dtx_packet_jobs.proofs.FeedFileLemmas.{packets_of-feed_bytes, whole_packets-feed_bytes}
use Rattle.dtx_packet_jobs.proofs.laws.feed_read_back.Goals as goal

pub returns-clause-packets : goal.returns-clause-packets
returns-clause-packets c = packets_of-feed_bytes

pub returns-clause-count : goal.returns-clause-count
returns-clause-count c = whole_packets-feed_bytes
