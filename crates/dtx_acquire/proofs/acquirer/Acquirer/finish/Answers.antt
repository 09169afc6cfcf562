use Rattle.std.proofs.Common.{◌≡◌, ◌+◌, ◌/◌, ℤ, Bool, true, false, List, [], ◌∷◌, length, drop, take, refl, sym, ap}
use Rattle.std.proofs.Common.{ap₂, ◌∙◌, subst, arith}
use Rattle.std.proofs.lemmas.List.{length-drop}
use Rattle.dtx_acquire.specs.Acquired.{begun, path_cost, restored, segments_from}
use Rattle.dtx_acquire.specs.Acquirer.{Holding, IsSought, StandsFor, field_of}
use Rattle.dtx_acquire.specs.Agreement.{agrees}
use Rattle.dtx_acquire.proofs.Fit.{fit_given}
use Rattle.dtx_acquire.proofs.Leaving.{IsEnd, ends}
use Rattle.dtx_acquire.proofs.WholeLemmas.{length-segments_from}
use Rattle.dtx_acquire.proofs.acquirer.Acquirer.finish.Goals as goal

pub forget-requires : goal.forget-requires
forget-requires c = c.self.invariant.within

pub seek-on-requires : goal.seek-on-requires
seek-on-requires c = λ on. ap (λ (xs : List ℤ). agrees xs 0) c.forget.ensures ∙ c.self.invariant.front on

pub give-requires-clause-room : goal.give-requires-clause-room
give-requires-clause-room c =
    omega (arith, c.whole_segments-count.ensures.room, c.len-left.ensures.long, ap length c.all.ensures)

pub give-requires-clause-most : goal.give-requires-clause-most
give-requires-clause-most c = omega (arith, c.self.invariant.room, c.self.invariant.most)

not_on : ◌≡◌ {A = Bool} false true → ⊥
not_on e = cc

pub invariant_of-self : goal.invariant_of-self
invariant_of-self c =
    let sought = c.seek-on.ensures.sought in
    let less = ap length sought.left ∙ length-drop sought.count c.forget.new.held in
    let kept = ap length c.forget.ensures ∙ length-drop c.self.inside.gone c.self.inside.held in
    let was = ap length c.forget.ensures in
    fit_given c.self.inside.giver.total (omega (arith, c.self.invariant.room, less, was)) c.self.invariant.most
    (omega (arith, c.self.invariant.few, less, kept)) (λ on. absurd (not_on on))
    (omega (arith, c.len-left.ensures.long)) c.whole_segments-count.ensures.room c.give.ensures.total
    c.give.ensures.scale c.give.ensures.count
    (c.give.ensures.field_cost
    ∙ ap (λ (xs : List ℤ). path_cost c.self.inside.giver.decisions.scale (segments_from xs 0
    c.whole_segments-count.result)) c.all.ensures)

-- ---- what all clauses say of the symbols that it stands for

end : (c : goal.After-self-2-1) (symbols : List ℤ) → StandsFor c.args.self.now symbols
    → IsEnd symbols c.args.self.now.scale (take c.give.new.self.count c.give.new.self.segments.items)
    (segments_from c.seek-on.new.held 0 c.give.new.self.count) c.give.new.self.runs c.give.new.self.total
    c.give.new.self.cost
end c symbols h =
    let scale = c.self.inside.giver.decisions.scale in
    let count = c.whole_segments-count.result in
    subst (λ (x : Holding). IsEnd symbols x.scale (take c.give.new.self.count c.give.new.self.segments.items)
    (segments_from c.seek-on.new.held 0 c.give.new.self.count) c.give.new.self.runs c.give.new.self.total
    c.give.new.self.cost) c.self.view_is
    (ends _ symbols c.seek-on.new.held c.seek-on.result count _ _ _ _ _
    (subst (λ (x : Holding). StandsFor x symbols) (sym c.self.view_is) h)
    (subst (λ (xs : List ℤ). IsSought xs c.seek-on.new.held) c.forget.ensures c.seek-on.ensures.sought)
    c.seek-on.ensures.front c.seek-on.ensures.few
    (λ on l. c.whole_segments-count.ensures.last on (omega (arith, l, c.len-left.ensures.long))
    ∙ ap (λ n. n / 832) c.len-left.ensures.long)
    c.whole_segments-count.ensures.none
    (c.give.ensures.given ∙ ap (λ (xs : List ℤ). restored scale (segments_from xs 0 count)) c.all.ensures)
    (ap (segments_from c.seek-on.new.held 0) c.give.ensures.count)
    (c.give.ensures.runs
    ∙ ap (λ (xs : List ℤ). c.self.inside.giver.runs + begun (field_of count c.self.inside.begins xs)) c.all.ensures)
    c.give.ensures.total
    (c.give.ensures.cost
    ∙ ap (λ (xs : List ℤ). c.self.inside.giver.cost + path_cost scale (segments_from xs 0 count)) c.all.ensures))

pub returns-clause-given : goal.returns-clause-given
returns-clause-given c = λ symbols h. (end c symbols h).gives

pub returns-clause-heard : goal.returns-clause-heard
returns-clause-heard c = λ symbols h. (end c symbols h).hears

pub returns-clause-runs : goal.returns-clause-runs
returns-clause-runs c = λ symbols h. (end c symbols h).runs_are

pub returns-clause-segments : goal.returns-clause-segments
returns-clause-segments c = λ symbols h. (end c symbols h).segments_are

pub returns-clause-cost : goal.returns-clause-cost
returns-clause-cost c = λ symbols h. (end c symbols h).cost_is

-- ---- the others

pub returns-clause-few : goal.returns-clause-few
returns-clause-few c = omega (arith, c.give.ensures.long, c.whole_segments-count.ensures.few)

pub returns-clause-same : goal.returns-clause-same
returns-clause-same c =
    length-segments_from c.seek-on.new.held 0 c.give.new.self.count ∙ c.give.ensures.count ∙ sym c.give.ensures.long

pub returns-clause-total : goal.returns-clause-total
returns-clause-total c =
    c.give.ensures.total
    ∙ ap₂ (λ a b. a + b) (ap (λ (x : Holding). x.segments) c.self.view_is) (sym c.give.ensures.long)

pub returns-clause-room : goal.returns-clause-room
returns-clause-room c =
    let sought = c.seek-on.ensures.sought in
    omega (
      arith,
      c.give.ensures.long,
      c.whole_segments-count.ensures.room,
      c.len-left.ensures.long,
      ap length sought.left,
      length-drop sought.count c.forget.new.held,
      ap length c.forget.ensures,
      ap (λ (x : Holding). length x.held) c.self.view_is,
    )

-- a list without elements
empty : (xs : List ℤ) → length xs ≡ 0 → xs ≡ []
empty [] e = refl
empty (x ∷ xs) e = absurd (omega arith)

pub returns-clause-held : goal.returns-clause-held
returns-clause-held c =
    empty (drop c.len-left.result c.seek-on.new.held)
    (omega (arith, length-drop c.len-left.result c.seek-on.new.held, c.len-left.ensures.long))
