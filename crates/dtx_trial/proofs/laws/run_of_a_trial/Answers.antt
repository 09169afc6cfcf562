use Rattle.std.proofs.Common.{inl}
use Rattle.dtx_top.specs.Trial.{IsTrialDone}
use Rattle.dtx_trial.proofs.TrialWords.{and_so, done_by_words, if_so}
use Rattle.dtx_trial.proofs.laws.run_of_a_trial.Goals as goal
use Rattle.dtx_trial.specs.TrialFiles.{AreTrialFiles}

pub returns : goal.returns
returns g c = λ seed count is small least most.
    if_so (g.S.Shelf.files c.args.shelf.now) _ _
    (λ held headline done. and_so (g.S.Shelf.files c.run.new.shelf) (IsTrialDone seed count held)
    (AreTrialFiles seed count) (λ now. c.files_of_a_done_trial.ensures seed count held now least most)
    (done_by_words c.args.words.now held (g.S.Shelf.files c.run.new.shelf) seed count is small least most
    (headline (inl done))))
    c.run.ensures.headline
