use Rattle.dtx_top.proofs.TrialAnswers.{words_done}
use Rattle.dtx_top.proofs.TrialDone.{trial_done}
use Rattle.dtx_top.proofs.TrialReceived.{ReceivedLaws}
use Rattle.dtx_top.proofs.Trials.{is_plan}
use Rattle.dtx_top.proofs.laws.a_trial_is_done.Goals as goal

cited : goal.After-groups_are_spaced → ReceivedLaws
cited c = record {
  met = c.joined_is_met.ensures.met;
  lists = record {
    orders = c.orders_of_a_feed.ensures.placeholders;
    listings = c.listings_of_a_feed.ensures.one_page;
  };
  headline = c.headline.ensures;
  spaced = c.groups_are_spaced.ensures.spaced;
}

pub returns-clause-plan : goal.returns-clause-plan
returns-clause-plan c = is_plan

pub returns-clause-done : goal.returns-clause-done
returns-clause-done c = trial_done (cited c)

pub returns-clause-words : goal.returns-clause-words
returns-clause-words c = words_done (trial_done (cited c))
