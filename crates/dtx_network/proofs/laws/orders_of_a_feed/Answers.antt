use Rattle.dtx_network.proofs.Orders.{same_orders, order_is, order_some, order_none, order_says}
use Rattle.dtx_network.proofs.Listings.{entry_is}
use Rattle.dtx_network.proofs.laws.orders_of_a_feed.Goals as goal

pub returns-clause-exact : goal.returns-clause-exact
returns-clause-exact c = order_is

pub returns-clause-some : goal.returns-clause-some
returns-clause-some c = order_some

pub returns-clause-none : goal.returns-clause-none
returns-clause-none c = order_none

pub returns-clause-placeholders : goal.returns-clause-placeholders
returns-clause-placeholders c = same_orders

pub returns-clause-says : goal.returns-clause-says
returns-clause-says c = order_says

pub returns-clause-entry : goal.returns-clause-entry
returns-clause-entry c = entry_is
