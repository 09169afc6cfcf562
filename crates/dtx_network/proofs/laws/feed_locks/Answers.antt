use Rattle.dtx_network.proofs.Listings.{feed_locks}
use Rattle.dtx_network.proofs.laws.feed_locks.Goals as goal

pub returns : goal.returns
returns c = feed_locks
