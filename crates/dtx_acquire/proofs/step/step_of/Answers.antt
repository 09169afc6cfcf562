use Rattle.std.proofs.Common.{◌≡◌, ℕ, ◌+◌, ◌≤◌, sym, ap, ◌∙◌, arith}
use Rattle.dtx_acquire.specs.Agreement.{agrees}
use Rattle.dtx_acquire.proofs.PlacesLemmas.{least_gives}
use Rattle.dtx_acquire.proofs.StepsLemmas.{agrees_dropped, step_due, step_kept, step_lost}
use Rattle.dtx_acquire.proofs.step.step_of.Goals as goal

pub returns-then-is_sync_at-clause-fields : goal.returns-then-is_sync_at-clause-fields
returns-then-is_sync_at-clause-fields c = λ wanted begins more.
    step_due wanted begins c.args.symbols.now more c.requires.full c.requires.front
    (sym c.is_sync_at.ensures ∙ c.if-is_sync_at.true)

pub returns-then-is_sync_at-clause-front : goal.returns-then-is_sync_at-clause-front
returns-then-is_sync_at-clause-front c = λ on.
    agrees_dropped c.args.symbols.now 260416 0 (omega (arith, c.requires.full))
    ∙ sym c.is_sync_at.ensures ∙ c.if-is_sync_at.true

pub returns-in-Some-clause-fields : goal.returns-in-Some-clause-fields
returns-in-Some-clause-fields c = λ wanted begins more.
    step_lost wanted begins c.in-Some.count c.args.symbols.now more c.requires.full c.requires.front
    (sym c.is_sync_at.ensures ∙ c.if-is_sync_at.false) (sym c.search.ensures ∙ c.in-Some.is)

pub returns-in-Some-clause-front : goal.returns-in-Some-clause-front
returns-in-Some-clause-front c = λ on.
    let is = least_gives agrees c.args.symbols.now 1 c.in-Some.count (sym c.search.ensures ∙ c.in-Some.is) in
    let all : c.in-Some.count + 0 ≡ c.in-Some.count = omega arith in
    agrees_dropped c.args.symbols.now c.in-Some.count 0 (omega (arith, is.within))
    ∙ ap (agrees c.args.symbols.now) all ∙ is.passes

pub returns-in-Some-clause-some : goal.returns-in-Some-clause-some
returns-in-Some-clause-some c =
    let is = least_gives agrees c.args.symbols.now 1 c.in-Some.count (sym c.search.ensures ∙ c.in-Some.is) in
    omega (arith, is.least)

pub returns-in-Some-clause-most : goal.returns-in-Some-clause-most
returns-in-Some-clause-most c =
    let is = least_gives agrees c.args.symbols.now 1 c.in-Some.count (sym c.search.ensures ∙ c.in-Some.is) in
    omega (arith, is.within, c.requires.full)

zero_least : (n : ℕ) → 0 ≤ n
zero_least n = omega arith

pub returns-in-Some-clause-behind : goal.returns-in-Some-clause-behind
returns-in-Some-clause-behind c = zero_least c.in-Some.count

pub returns-in-None-clause-fields : goal.returns-in-None-clause-fields
returns-in-None-clause-fields c = λ wanted begins more.
    step_kept wanted begins c.args.symbols.now more c.requires.full c.requires.front
    (sym c.is_sync_at.ensures ∙ c.if-is_sync_at.false) (sym c.search.ensures ∙ c.in-None.is)
