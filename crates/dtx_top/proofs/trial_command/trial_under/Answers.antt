use Rattle.std.proofs.Common.{ℕ, List, subst, arith}
use Rattle.dtx_recipes.specs.Make.{made_file}
use Rattle.dtx_meaning.specs.Meaning.{IsCarriedOut}
use Rattle.dtx_top.proofs.Trials.{alone_carried, alone_come, make_of_trial, then_carried, then_come}
use Rattle.dtx_top.proofs.trial_command.trial_under.Goals as goal

pub trial_played-requires : goal.trial_played-requires
trial_played-requires g c = record {
  seed = c.args.seed;
  count = c.args.count;
  small = omega arith;
  least = c.requires.least;
  most = c.requires.most;
  is = c.requires.plan;
}

pub returns-in-Done-clause-carried : goal.returns-in-Done-clause-carried
returns-in-Done-clause-carried g c =
    let mid = g.S.Shelf.files c.make_stream-made.new.shelf in
    then_carried c.args.seed c.args.count (g.S.Shelf.files c.args.shelf.now) mid
    (g.S.Shelf.files c.trial_played.new.shelf) c.make_stream-made.result c.trial_played.result c.in-Done.is
    (subst (λ (name : List ℕ). IsCarriedOut (made_file c.args.seed c.args.count name)
    (g.S.Shelf.files c.args.shelf.now) c.make_stream-made.result mid) c.trial_name.ensures
    c.make_stream-made.ensures.carried)
    (λ held tells there. c.trial_played.ensures.carried c.args.seed c.args.count held c.requires.plan tells there)

pub returns-in-Done-clause-progress : goal.returns-in-Done-clause-progress
returns-in-Done-clause-progress g c =
    let mid = g.S.Shelf.files c.make_stream-made.new.shelf in
    then_come c.args.seed c.args.count (g.S.Shelf.files c.args.shelf.now) mid
    (g.S.Shelf.files c.trial_played.new.shelf) c.make_stream-made.result c.trial_played.result.status c.in-Done.is
    (subst (λ (name : List ℕ). IsCarriedOut (made_file c.args.seed c.args.count name)
    (g.S.Shelf.files c.args.shelf.now) c.make_stream-made.result mid) c.trial_name.ensures
    c.make_stream-made.ensures.carried)
    (λ held tells there. c.trial_played.ensures.progress c.args.seed c.args.count held c.requires.plan tells there)

pub returns-in_default-clause-carried : goal.returns-in_default-clause-carried
returns-in_default-clause-carried g c =
    let now = g.S.Shelf.files c.make_stream-made.new.shelf in
    alone_carried c.args.seed c.args.count (g.S.Shelf.files c.args.shelf.now) now c.make_stream-made.result
    c.in_default.not-Done
    (subst (λ (name : List ℕ). IsCarriedOut (made_file c.args.seed c.args.count name)
    (g.S.Shelf.files c.args.shelf.now) c.make_stream-made.result now) c.trial_name.ensures
    c.make_stream-made.ensures.carried)

pub returns-in_default-clause-progress : goal.returns-in_default-clause-progress
returns-in_default-clause-progress g c =
    let now = g.S.Shelf.files c.make_stream-made.new.shelf in
    alone_come c.args.seed c.args.count (g.S.Shelf.files c.args.shelf.now) now c.make_stream-made.result
    c.in_default.not-Done
    (subst (λ (name : List ℕ). IsCarriedOut (made_file c.args.seed c.args.count name)
    (g.S.Shelf.files c.args.shelf.now) c.make_stream-made.result now) c.trial_name.ensures
    c.make_stream-made.ensures.carried)

pub returns-in_default-clause-words : goal.returns-in_default-clause-words
returns-in_default-clause-words g c =
    (make_of_trial c.make_stream-made.result c.in_default.not-Done c.make_stream-made.ensures.words
    c.make_stream-made.ensures.answers).0

pub returns-in_default-clause-answers : goal.returns-in_default-clause-answers
returns-in_default-clause-answers g c =
    (make_of_trial c.make_stream-made.result c.in_default.not-Done c.make_stream-made.ensures.words
    c.make_stream-made.ensures.answers).1
