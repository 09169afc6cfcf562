use Rattle.std.proofs.Common.{◌≡◌, ◌+◌, ◌≤◌, length, sym, ap, ◌∙◌, subst, arith}
use Rattle.std.proofs.lemmas.List.{length-drop}
use Rattle.dtx_level.specs.Shown.{shows}
use Rattle.dtx_level.specs.Leveller.{Holding}
use Rattle.dtx_level.proofs.Shows.{shows_dropped}
use Rattle.dtx_level.proofs.leveller.Leveller.find.Goals as goal

pub invariant_of-self : goal.invariant_of-self
invariant_of-self c =
    let held = c.self.inside.held in
    let room = subst (λ (x : Holding). c.args.place ≤ length x.held) (sym c.self.view_is) c.requires.room in
    let none : c.args.place + 0 ≡ c.args.place = omega arith in
    let less = ap length c.give.ensures.held ∙ length-drop c.args.place held in (
      omega (arith, c.self.invariant.0, less),
      c.self.invariant.1,
      c.self.invariant.2,
      omega (arith, c.self.invariant.3, less),
      omega (arith, c.self.invariant.4, less),
      λ on. ap (λ xs. shows xs 0) c.give.ensures.held ∙ shows_dropped held c.args.place 0 room
          ∙ ap (shows held) none ∙ ap (λ (x : Holding). shows x.held c.args.place) c.self.view_is ∙ c.requires.front,
    )

pub returns : goal.returns
returns c =
    rw (← c.self.view_is) (cc (
      c.owed-self-inside.ensures,
      c.give.ensures.given,
      c.give.ensures.held,
      c.give.ensures.begun,
      c.give.ensures.gain,
      c.give.ensures.constant,
    ))
