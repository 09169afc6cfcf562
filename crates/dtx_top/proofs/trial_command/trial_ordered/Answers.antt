use Rattle.std.proofs.Common.{◌≡◌, ℕ, sym, subst}
use Rattle.std.specs.Prelude.{Option, Some, IfSome}
use Rattle.dtx_meaning.specs.declared.status.Status.TheVariants.{Done}
use Rattle.dtx_top.specs.Trial.{HasNumbersHeadline}
use Rattle.dtx_top.proofs.Trials.{headline_told}
use Rattle.dtx_top.proofs.trial_command.trial_ordered.Goals as goal

pub returns-in-Some-Some-clause-headline : goal.returns-in-Some-Some-clause-headline
returns-in-Some-Some-clause-headline g c =
    let told = g.S.Shelf.files c.args.shelf.now in
    let now = g.S.Shelf.files c.trial_made.new.shelf in
    let outcome = c.trial_made.result in
    subst (λ (s : Option ℕ). IfSome told (λ held. outcome.status ≡ Done
    → HasNumbersHeadline s c.args.count held now)) (sym c.in-Some-Some.is-0)
    (subst (λ (k : Option ℕ). IfSome told (λ held. outcome.status ≡ Done
    → HasNumbersHeadline (Some c.in-Some-Some.seed) k held now)) (sym c.in-Some-Some.is-1)
    (headline_told c.headline.ensures c.in-Some-Some.seed c.in-Some-Some.count told now outcome
    c.trial_made.ensures.carried))
