use Rattle.std.proofs.Common.{◌≡◌, ◌+◌, ◌⊎◌, inl, inr, ℕ, ℤ, List, [], ◌∷◌, drop, length, take, refl, sym, ap, ap₂, ◌∙◌}
use Rattle.std.proofs.Common.{subst, arith}
use Rattle.std.proofs.lemmas.List.{length-drop}
use Rattle.dtx_acquire.specs.Acquired.{path_cost, restored_of, segments_from}
use Rattle.dtx_acquire.specs.Acquirer.{Holding, Leaves, field_of}
use Rattle.dtx_acquire.specs.Agreement.{agrees}
use Rattle.dtx_acquire.proofs.Fit.{fit_given, none_gone}
use Rattle.dtx_acquire.proofs.Leaving.{heard_one, leaves_settled, restored_one}
use Rattle.dtx_acquire.proofs.WholeLemmas.{length-segments_from}
use Rattle.dtx_acquire.proofs.acquirer.Acquirer.settle.Goals as goal

pub step_of-step-requires-clause-full : goal.step_of-step-requires-clause-full
step_of-step-requires-clause-full c =
    let full = ap (λ (x : Holding). length x.held) c.self.view_is ∙ c.requires.full in
    ap length c.all-symbols.ensures
    ∙ sym (ap (λ n. length (drop n c.self.inside.held)) (none_gone c.self.invariant full)) ∙ full

pub step_of-step-requires-clause-front : goal.step_of-step-requires-clause-front
step_of-step-requires-clause-front c =
    let full = ap (λ (x : Holding). length x.held) c.self.view_is ∙ c.requires.full in
    ap (λ (xs : List ℤ). agrees xs 0) c.all-symbols.ensures
    ∙ sym (ap (λ n. agrees (drop n c.self.inside.held) 0) (none_gone c.self.invariant full))
    ∙ ap (λ (x : Holding). agrees x.held 0) c.self.view_is ∙ c.requires.front

pub give-requires-clause-room : goal.give-requires-clause-room
give-requires-clause-room c =
    let full = ap (λ (x : Holding). length x.held) c.self.view_is ∙ c.requires.full in
    let long = ap length c.all-symbols.ensures
    ∙ sym (ap (λ n. length (drop n c.self.inside.held)) (none_gone c.self.invariant full)) ∙ full in
    omega (arith, c.step_of-step.ensures.behind, c.step_of-step.ensures.most, long)

pub give-requires-clause-most : goal.give-requires-clause-most
give-requires-clause-most c = omega (arith, c.self.invariant.room, c.self.invariant.most)

pub invariant_of-self : goal.invariant_of-self
invariant_of-self c =
    let step = c.step_of-step.result in
    let full = ap (λ (x : Holding). length x.held) c.self.view_is ∙ c.requires.full in
    let kept = none_gone c.self.invariant full in
    let long = length-drop c.self.inside.gone c.self.inside.held in
    fit_given c.self.inside.giver.total (omega (arith, c.self.invariant.room, kept, long)) c.self.invariant.most
    c.self.invariant.few
    (λ on. ap (λ (xs : List ℤ). agrees (drop step.count xs) 0) (sym c.all-symbols.ensures)
    ∙ c.step_of-step.ensures.front on)
    (omega (arith, c.step_of-step.ensures.most, full, kept, long)) c.step_of-step.ensures.behind c.give.ensures.total
    c.give.ensures.scale c.give.ensures.count
    (c.give.ensures.field_cost
    ∙ ap (λ (xs : List ℤ). path_cost c.self.inside.giver.decisions.scale (segments_from xs 0 step.given))
    c.all-symbols.ensures)

pub returns-clause-few : goal.returns-clause-few
returns-clause-few c =
    let held = c.self.inside.held in
    omega
    (arith, c.step_of-step.ensures.some, c.self.invariant.few, length-drop c.step_of-step.result.count held)

pub returns-clause-room : goal.returns-clause-room
returns-clause-room c =
    let held = c.self.inside.held in
    omega (
      arith,
      c.give.ensures.long,
      c.step_of-step.ensures.behind,
      c.step_of-step.ensures.most,
      c.requires.full,
      c.self.invariant.few,
      length-drop c.step_of-step.result.count held,
    )

pub returns-clause-leaves : goal.returns-clause-leaves
returns-clause-leaves c = λ symbols done h.
    let step = c.step_of-step.result in
    let all = c.all-symbols.result.now in
    let full = ap (λ (x : Holding). length x.held) c.self.view_is ∙ c.requires.full in
    let kept = none_gone c.self.invariant full in
    let field = field_of step.given c.self.inside.begins all in (
      field ∷ [],
      leaves_settled _ _ all step.count step.given symbols done
          (subst (λ (x : Holding). Leaves x symbols done) (sym c.self.view_is) h)
          (c.all-symbols.ensures ∙ sym (ap (λ n. drop n c.self.inside.held) kept)) c.step_of-step.ensures.fields
          (ap (drop step.count) (sym c.all-symbols.ensures)) refl c.give.ensures.scale c.give.ensures.runs
          c.give.ensures.total c.give.ensures.cost,
      c.give.ensures.given ∙ sym (restored_one c.self.inside.giver.decisions.scale field)
          ∙ ap (λ (x : Holding). restored_of x.scale (field ∷ [])) c.self.view_is,
      ap (segments_from c.self.inside.held 0) c.give.ensures.count
          ∙ ap (λ (xs : List ℤ). segments_from xs 0 step.given) (sym c.all-symbols.ensures) ∙ sym (heard_one field),
    )

whole_or_none : (given count : ℕ) (items : List (List ℤ)) → (given ≡ 313) ⊎ (given ≡ 0) → count ≡ given
    → length (take count items) ≡ given → (take count items ≡ []) ⊎ (length (take count items) ≡ 313)
whole_or_none given count items (inl e) many long = inr (long ∙ e)
whole_or_none given count items (inr e) many long = inl (ap (λ n. take n items) (many ∙ e))

pub returns-clause-whole : goal.returns-clause-whole
returns-clause-whole c =
    whole_or_none c.step_of-step.result.given c.give.new.self.count c.give.new.self.segments.items
    c.step_of-step.ensures.whole c.give.ensures.count c.give.ensures.long

pub returns-clause-same : goal.returns-clause-same
returns-clause-same c =
    length-segments_from c.self.inside.held 0 c.give.new.self.count ∙ c.give.ensures.count ∙ sym c.give.ensures.long

pub returns-clause-total : goal.returns-clause-total
returns-clause-total c =
    c.give.ensures.total
    ∙ ap₂ (λ a b. a + b) (ap (λ (x : Holding). x.segments) c.self.view_is) (sym c.give.ensures.long)
