use Rattle.dtx_adapter.proofs.FeedsLemmas.{feed-take, feed_packet}
use Rattle.dtx_adapter.proofs.laws.prefix.Goals as goal

pub returns-clause-feed : goal.returns-clause-feed
returns-clause-feed c = feed-take

pub returns-clause-packet : goal.returns-clause-packet
returns-clause-packet c = feed_packet
