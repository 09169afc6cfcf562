use Rattle.dtx_network.proofs.FeedPackets.{feed_packets}
use Rattle.dtx_network.proofs.laws.packets_of_a_feed.Goals as goal

pub returns : goal.returns
returns c = feed_packets
