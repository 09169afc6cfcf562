use Rattle.std.proofs.Common.{ℕ, ◌-◌, ◌^◌, List, ap, subst, sym, ◌∙◌}
use Rattle.std.specs.Prelude.{Some, IfSome}
use Rattle.dtx_forms.proofs.NumbersLemmas.{within_range}
use Rattle.dtx_meaning.specs.Meaning.{IsCarriedOut}
use Rattle.dtx_words.specs.Fitting.{number_in, number_within}
use Rattle.dtx_top.specs.Trial.{HasNumbersProgress, HasTrialProgress, trial_meaning, trial_of}
use Rattle.dtx_top.proofs.Trials.{of_words, three_words}
use Rattle.dtx_top.proofs.trial_command.trial.Goals as goal

pub trial_ordered-requires : goal.trial_ordered-requires
trial_ordered-requires g c =
    within_range 624 1000000 c.as_str-in-len3.result.now c.number_within-count.result c.number_within-count.ensures

pub returns-in-len3-clause-carried : goal.returns-in-len3-clause-carried
returns-in-len3-clause-carried g c =
    let told = g.S.Shelf.files c.args.shelf.now in
    let now = g.S.Shelf.files c.trial_ordered.new.shelf in
    let outcome = c.trial_ordered.result in
    let three = three_words c.args.words.now c.seed-item.result c.count-item.result c.in-len3.len_at_least
    c.in-len3.len_below c.seed-item.is c.count-item.is in
    subst (λ (ws : List (List ℕ)). IfSome told (λ held. IsCarriedOut (trial_meaning ws held) (Some held) outcome now))
    (sym three.1)
    (of_words (λ s k. IfSome told (λ held. IsCarriedOut (trial_of s k) (Some held) outcome now))
    c.number_up_to-seed.result c.number_within-count.result c.seed-item.result c.count-item.result
    (c.number_up_to-seed.ensures.number ∙ ap (number_in (2 ^ 64 - 1)) c.as_str.ensures)
    (c.number_within-count.ensures ∙ ap (number_within 624 1000000) c.as_str-in-len3.ensures)
    c.trial_ordered.ensures.carried)

pub returns-in-len3-clause-progress : goal.returns-in-len3-clause-progress
returns-in-len3-clause-progress g c =
    let told = g.S.Shelf.files c.args.shelf.now in
    let now = g.S.Shelf.files c.trial_ordered.new.shelf in
    let status = c.trial_ordered.result.status in
    let three = three_words c.args.words.now c.seed-item.result c.count-item.result c.in-len3.len_at_least
    c.in-len3.len_below c.seed-item.is c.count-item.is in
    subst (λ (ws : List (List ℕ)). IfSome told (λ held. HasTrialProgress ws held status now)) (sym three.1)
    (of_words (λ s k. IfSome told (λ held. HasNumbersProgress s k status held now))
    c.number_up_to-seed.result c.number_within-count.result c.seed-item.result c.count-item.result
    (c.number_up_to-seed.ensures.number ∙ ap (number_in (2 ^ 64 - 1)) c.as_str.ensures)
    (c.number_within-count.ensures ∙ ap (number_within 624 1000000) c.as_str-in-len3.ensures)
    c.trial_ordered.ensures.progress)
