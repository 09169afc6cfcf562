use Rattle.dtx_trial.proofs.DoneTrial.{Laws, trial_files}
use Rattle.dtx_trial.proofs.laws.files_of_a_done_trial.Goals as goal

cited : goal.After-gives_all_back → Laws
cited c = record {
  plan = c.a_trial_is_done.ensures.plan;
  stream = c.made_packets_are_a_stream.ensures.stream;
  orders = c.orders_of_a_feed.ensures.placeholders;
  listings = c.listings_of_a_feed.ensures.one_page;
  segments = c.from_a_mark.ensures.segments;
  lines = c.from_a_mark.ensures.lines;
  packets = c.packets_of_a_feed.ensures;
  slight = c.stretch_is_slight.ensures;
  back = c.gives_all_back.ensures;
}

pub returns : goal.returns
returns c = trial_files (cited c)
