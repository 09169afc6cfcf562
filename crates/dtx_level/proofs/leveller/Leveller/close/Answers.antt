use Rattle.std.proofs.Common.{length, sym, ap, ◌∙◌, arith}
use Rattle.dtx_acquire.proofs.PlacesLemmas.{whole_there}
use Rattle.dtx_level.specs.Leveller.{Holding, closed}
use Rattle.dtx_level.specs.Shown.{shows}
use Rattle.dtx_level.proofs.Shows.{past_end}
use Rattle.dtx_level.proofs.Steps.{closed_begun, closed_none, closed_on}
use Rattle.dtx_level.proofs.leveller.Leveller.close.Goals as goal

pub stretch-requires-clause-some : goal.stretch-requires-clause-some
stretch-requires-clause-some c =
    let there = whole_there shows past_end c.self.inside.held 0 (c.self.invariant.5 c.if-self.true) in
    omega (arith, there, c.len-left.ensures.long)

pub returns-then-self : goal.returns-then-self
returns-then-self c =
    let left = c.len-left.ensures.long ∙ ap (λ (x : Holding). length x.held) c.self.view_is in
    let on = ap (λ (x : Holding). x.on) (sym c.self.view_is) ∙ c.if-self.true in
    let step = closed_on c.args.self.now on in
    cc (left, step, c.stretch.ensures)

pub returns-then-self-2 : goal.returns-then-self-2
returns-then-self-2 c =
    let step = closed_begun _ c.if-self.false c.if-self-2.true in
    let left = c.len-left.ensures.long in
    (cc (
      left,
      c.give.ensures.given,
      c.give.ensures.held,
      c.give.ensures.begun,
      c.give.ensures.gain,
      c.give.ensures.constant,
    )
    ∙ sym step) ∙ ap closed c.self.view_is

pub returns-else-self-2 : goal.returns-else-self-2
returns-else-self-2 c =
    sym (closed_none c.args.self.now (ap (λ (x : Holding). x.on) (sym c.self.view_is) ∙ c.if-self.false)
    (ap (λ (x : Holding). x.by.begun) (sym c.self.view_is) ∙ c.if-self-2.false))
