use Rattle.dtx_top.proofs.WorkedNetwork.{file_back, worked}
use Rattle.dtx_top.proofs.laws.simple_networks_work.Goals as goal

pub returns-clause-works : goal.returns-clause-works
returns-clause-works c =
    worked (record {
      met = c.joined_is_met.ensures.met_first;
      alone = c.sends_the_stretch_alone.ensures;
      lists = record {
        orders = c.orders_of_a_feed.ensures.placeholders;
        listings = c.listings_of_a_feed.ensures.one_page;
      };
      packets = c.packets_of_a_feed.ensures;
      headline = c.headline.ensures;
    })

pub returns-clause-file : goal.returns-clause-file
returns-clause-file c = file_back
