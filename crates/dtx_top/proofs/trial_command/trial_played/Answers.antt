use Rattle.std.proofs.Common.{subst, sym}
use Rattle.dtx_outside.specs.Counts.{Blame, HasGone}
use Rattle.dtx_top.proofs.Trials.{blame_of_trial, its_network, network_of, played_carried, played_progress}
use Rattle.dtx_top.proofs.Trials.{replay_of_trial}
use Rattle.dtx_top.proofs.trial_command.trial_played.Goals as goal

pub replay-requires-clause-sound : goal.replay-requires-clause-sound
replay-requires-clause-sound g c = (network_of c.args.plan.now c.in-Some.network c.requires c.in-Some.is).sound

pub replay-requires-clause-network : goal.replay-requires-clause-network
replay-requires-clause-network g c = (network_of c.args.plan.now c.in-Some.network c.requires c.in-Some.is).net

pub replay-requires-clause-differ : goal.replay-requires-clause-differ
replay-requires-clause-differ g c = (network_of c.args.plan.now c.in-Some.network c.requires c.in-Some.is).differ

pub returns-clause-carried : goal.returns-clause-carried
returns-clause-carried g c = λ seed count held is tells there. rw c.trial_outcome.ensures
    (played_carried c.args.plan.now c.in-Some.network seed count held (g.S.Shelf.files c.args.shelf.now)
    (g.S.Shelf.files c.replay.new.shelf) c.replay.result is c.in-Some.is tells there c.replay.ensures.carried)

pub returns-clause-progress : goal.returns-clause-progress
returns-clause-progress g c = λ seed count held is tells there. rw c.trial_outcome.ensures
    (played_progress c.args.plan.now c.in-Some.network seed count held (g.S.Shelf.files c.args.shelf.now)
    (g.S.Shelf.files c.replay.new.shelf) c.replay.result.status is c.in-Some.is tells there c.replay.ensures.progress)

pub returns-clause-words : goal.returns-clause-words
returns-clause-words g c = rw c.trial_outcome.ensures
    (replay_of_trial c.in-Some.network c.replay.result c.replay.ensures.network c.replay.ensures.shown c.requires.seed
    c.requires.count
    (its_network c.args.plan.now c.requires.seed c.requires.count c.in-Some.network c.requires.is c.in-Some.is)).0

pub returns-clause-answers : goal.returns-clause-answers
returns-clause-answers g c = rw c.trial_outcome.ensures
    (replay_of_trial c.in-Some.network c.replay.result c.replay.ensures.network c.replay.ensures.shown c.requires.seed
    c.requires.count
    (its_network c.args.plan.now c.requires.seed c.requires.count c.in-Some.network c.requires.is c.in-Some.is)).1

pub returns-clause-gone : goal.returns-clause-gone
returns-clause-gone g c = rw c.trial_outcome.ensures
    (subst (λ (b : Blame). HasGone (g.S.Shelf.counts c.args.shelf.now) (g.S.Shelf.counts c.replay.new.shelf) b)
    (sym (blame_of_trial c.replay.result.status)) c.replay.ensures.gone)
