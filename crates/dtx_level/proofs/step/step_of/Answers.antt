use Rattle.std.proofs.Common.{◌≡◌, Some, sym, ap, ◌∙◌, subst, arith}
use Rattle.std.proofs.lemmas.Bool.{cond-true, cond-false}
use Rattle.dtx_level.specs.Leveller.{step_at, step_to}
use Rattle.dtx_level.specs.Shown.{shows}
use Rattle.dtx_level.proofs.Steps.{IsStep, step_is}
use Rattle.dtx_level.proofs.step.step_of.Goals as goal

due : (c : goal.Then-is_sync_at) → step_to (Some 260416) ≡ step_at c.args.symbols.now
unfolding step_at
due c = sym (cond-true (shows c.args.symbols.now 260416) _ _ (sym c.is_sync_at.ensures ∙ c.if-is_sync_at.true))

pub returns-then-is_sync_at-clause-step : goal.returns-then-is_sync_at-clause-step
returns-then-is_sync_at-clause-step c = due c

pub returns-then-is_sync_at-clause-front : goal.returns-then-is_sync_at-clause-front
returns-then-is_sync_at-clause-front c =
    (subst (IsStep c.args.symbols.now) (sym (due c)) (step_is c.args.symbols.now c.requires)).next

behind : (c : goal.In-Some) → step_to (Some c.in-Some.count) ≡ step_at c.args.symbols.now
unfolding step_at
behind c =
    ap step_to (sym (sym c.search.ensures ∙ c.in-Some.is))
    ∙ sym (cond-false (shows c.args.symbols.now 260416) _ _ (sym c.is_sync_at.ensures ∙ c.if-is_sync_at.false))

pub returns-in-Some-clause-step : goal.returns-in-Some-clause-step
returns-in-Some-clause-step c = behind c

pub returns-in-Some-clause-front : goal.returns-in-Some-clause-front
returns-in-Some-clause-front c =
    (subst (IsStep c.args.symbols.now) (sym (behind c)) (step_is c.args.symbols.now c.requires)).next

pub returns-in-Some-clause-some : goal.returns-in-Some-clause-some
returns-in-Some-clause-some c =
    (subst (IsStep c.args.symbols.now) (sym (behind c)) (step_is c.args.symbols.now c.requires)).some

pub returns-in-Some-clause-most : goal.returns-in-Some-clause-most
returns-in-Some-clause-most c =
    let is = subst (IsStep c.args.symbols.now) (sym (behind c)) (step_is c.args.symbols.now c.requires) in
    omega (arith, is.most, c.requires)

pub returns-in-None-clause-step : goal.returns-in-None-clause-step
unfolding step_at
returns-in-None-clause-step c =
    ap step_to (sym (sym c.search.ensures ∙ c.in-None.is))
    ∙ sym (cond-false (shows c.args.symbols.now 260416) _ _ (sym c.is_sync_at.ensures ∙ c.if-is_sync_at.false))
