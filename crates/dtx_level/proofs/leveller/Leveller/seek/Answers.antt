use Rattle.std.proofs.Common.{◌≡◌, ◌-◌, Some, None, length, sym, ap, ◌∙◌, arith}
use Rattle.dtx_acquire.proofs.PlacesLemmas.{least_gives}
use Rattle.dtx_level.specs.Leveller.{Holding, passed}
use Rattle.dtx_level.specs.Shown.{least_shown, shows}
use Rattle.dtx_level.proofs.Steps.{sought_off, sought_on}
use Rattle.dtx_level.proofs.leveller.Leveller.seek.Goals as goal

pub returns-then-self : goal.returns-then-self
returns-then-self c =
    sym (sought_on c.args.self.now (ap (λ (x : Holding). x.on) (sym c.self.view_is) ∙ c.if-self.true))

pub find-requires-clause-room : goal.find-requires-clause-room
find-requires-clause-room c =
    let e : least_shown c.args.self.now.held 0 ≡ Some c.in-Some.place =
    ap (λ (x : Holding). least_shown x.held 0) (sym c.self.view_is) ∙ ap (λ s. least_shown s 0) (sym c.all.ensures)
    ∙ sym c.search.ensures ∙ c.in-Some.is in
    let is = least_gives shows c.args.self.now.held 0 c.in-Some.place e in
    omega (arith, is.within)

pub find-requires-clause-most : goal.find-requires-clause-most
find-requires-clause-most c =
    let e : least_shown c.args.self.now.held 0 ≡ Some c.in-Some.place =
    ap (λ (x : Holding). least_shown x.held 0) (sym c.self.view_is) ∙ ap (λ s. least_shown s 0) (sym c.all.ensures)
    ∙ sym c.search.ensures ∙ c.in-Some.is in
    let is = least_gives shows c.args.self.now.held 0 c.in-Some.place e in
    let long = c.len-left.ensures.long ∙ ap (λ (x : Holding). length x.held) c.self.view_is in
    omega (arith, is.within, long, c.len-left.ensures.few)

pub find-requires-clause-front : goal.find-requires-clause-front
find-requires-clause-front c =
    let e : least_shown c.args.self.now.held 0 ≡ Some c.in-Some.place =
    ap (λ (x : Holding). least_shown x.held 0) (sym c.self.view_is) ∙ ap (λ s. least_shown s 0) (sym c.all.ensures)
    ∙ sym c.search.ensures ∙ c.in-Some.is in
    (least_gives shows c.args.self.now.held 0 c.in-Some.place e).passes

pub returns-in-Some : goal.returns-in-Some
returns-in-Some c =
    let e : least_shown c.args.self.now.held 0 ≡ Some c.in-Some.place =
    ap (λ (x : Holding). least_shown x.held 0) (sym c.self.view_is) ∙ ap (λ s. least_shown s 0) (sym c.all.ensures)
    ∙ sym c.search.ensures ∙ c.in-Some.is in
    c.find.ensures ∙ sym (sought_off c.args.self.now (Some c.in-Some.place)
    (ap (λ (x : Holding). x.on) (sym c.self.view_is) ∙ c.if-self.false) e)

pub returns-in-None : goal.returns-in-None
returns-in-None c =
    let e : least_shown c.args.self.now.held 0 ≡ None =
    ap (λ (x : Holding). least_shown x.held 0) (sym c.self.view_is) ∙ ap (λ s. least_shown s 0) (sym c.all.ensures)
    ∙ sym c.search.ensures ∙ c.in-None.is in
    let held = ap (λ (x : Holding). length x.held) c.self.view_is in
    c.pass.ensures ∙ ap (passed c.args.self.now) (c.saturating_sub.ensures
    ∙ ap (λ n. n - 831) (c.len-left.ensures.long ∙ held))
    ∙ sym (sought_off c.args.self.now None (ap (λ (x : Holding). x.on) (sym c.self.view_is) ∙ c.if-self.false) e)
