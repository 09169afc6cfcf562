use Rattle.dtx_network.proofs.Listings.{listing_is}
use Rattle.dtx_network.proofs.Turns.{listing_one_page}
use Rattle.dtx_network.proofs.laws.listings_of_a_feed.Goals as goal

pub returns-clause-exact : goal.returns-clause-exact
returns-clause-exact c = listing_is

pub returns-clause-one_page : goal.returns-clause-one_page
returns-clause-one_page c = listing_one_page
