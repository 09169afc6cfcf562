use Rattle.std.proofs.Common.{◌≡◌, ◌+◌, ◌<◌, ◌⊎◌, inl, inr, ℤ, Bool, true, List, [], drop, length, take, refl}
use Rattle.std.proofs.Common.{sym, ap, ◌∙◌, subst, arith}
use Rattle.std.proofs.lemmas.List.{append-nil, length-drop}
use Rattle.dtx_acquire.specs.Acquired.{restored_of, segments_from}
use Rattle.dtx_acquire.specs.Acquirer.{Holding, Leaves}
use Rattle.dtx_acquire.specs.Agreement.{agrees}
use Rattle.dtx_acquire.proofs.Fit.{fit_sought, none_given, none_gone, sought_all}
use Rattle.dtx_acquire.proofs.Leaving.{leaves_sought}
use Rattle.dtx_acquire.proofs.WholeLemmas.{length-segments_from}
use Rattle.dtx_acquire.proofs.acquirer.Acquirer.turn.Goals as goal

pub seek-self-inside-requires : goal.seek-self-inside-requires
seek-self-inside-requires c = λ on.
    let kept = none_gone c.self.invariant (ap (λ (x : Holding). length x.held) c.self.view_is ∙ c.requires.full) in
    sym (ap (λ n. agrees (drop n c.self.inside.held) 0) kept) ∙ c.self.invariant.front on

pub invariant_of-self : goal.invariant_of-self
invariant_of-self c =
    fit_sought c.self.invariant
    (none_gone c.self.invariant (ap (λ (x : Holding). length x.held) c.self.view_is ∙ c.requires.full))
    (none_given _ _ (ap (λ (x : Holding). x.heard) c.self.view_is ∙ c.requires.none))
    c.seek-self-inside.ensures.sought c.seek-self-inside.ensures.front

pub invariant_of-self-else-len-eq-MOST_HELD : goal.invariant_of-self-else-len-eq-MOST_HELD
invariant_of-self-else-len-eq-MOST_HELD c =
    fit_sought c.self.invariant
    (none_gone c.self.invariant (ap (λ (x : Holding). length x.held) c.self.view_is ∙ c.requires.full))
    (none_given _ _ (ap (λ (x : Holding). x.heard) c.self.view_is ∙ c.requires.none))
    c.seek-self-inside.ensures.sought c.seek-self-inside.ensures.front

-- ---- where a sync is in front of a full buffer

pub settle-requires-clause-full : goal.settle-requires-clause-full
settle-requires-clause-full c =
    let kept = none_gone c.self.invariant (ap (λ (x : Holding). length x.held) c.self.view_is ∙ c.requires.full) in
    ap (λ n. length (drop n c.seek-self-inside.new.held)) kept ∙ sym c.len.ensures.long
    ∙ c.if-len-eq-MOST_HELD.true

in_front : (found : Bool) (held : List ℤ) → (found ≡ true) ⊎ (length held < 832) → length held ≡ 261248
    → found ≡ true
in_front found held (inl e) full = e
in_front found held (inr short) full = absurd (omega (arith, short, full))

pub settle-requires-clause-front : goal.settle-requires-clause-front
settle-requires-clause-front c =
    let kept = none_gone c.self.invariant (ap (λ (x : Holding). length x.held) c.self.view_is ∙ c.requires.full) in
    ap (λ n. agrees (drop n c.seek-self-inside.new.held) 0) kept
    ∙ c.seek-self-inside.ensures.front (in_front c.seek-self-inside.result c.seek-self-inside.new.held
    c.seek-self-inside.ensures.few (sym c.len.ensures.long ∙ c.if-len-eq-MOST_HELD.true))

pub returns-then-len-eq-MOST_HELD-clause-leaves : goal.returns-then-len-eq-MOST_HELD-clause-leaves
returns-then-len-eq-MOST_HELD-clause-leaves c = λ symbols done h.
    let kept = none_gone c.self.invariant (ap (λ (x : Holding). length x.held) c.self.view_is ∙ c.requires.full) in
    let found = c.settle.ensures.leaves symbols done (leaves_sought _ _ symbols done
    (subst (λ (x : Holding). Leaves x symbols done) (sym c.self.view_is) h)
    (sought_all kept c.seek-self-inside.ensures.sought) refl refl refl refl refl refl) in
    (found.0, found.1, found.2 ∙ ap (λ (x : Holding). restored_of x.scale found.0) c.self.view_is, found.3)

pub returns-then-len-eq-MOST_HELD-clause-room : goal.returns-then-len-eq-MOST_HELD-clause-room
returns-then-len-eq-MOST_HELD-clause-room c =
    omega (
      arith,
      c.settle.ensures.room,
      c.requires.full,
      c.len.ensures.long,
      c.if-len-eq-MOST_HELD.true,
      length-drop c.self.inside.gone c.seek-self-inside.new.held,
    )

pub returns-then-len-eq-MOST_HELD-clause-total : goal.returns-then-len-eq-MOST_HELD-clause-total
returns-then-len-eq-MOST_HELD-clause-total c =
    c.settle.ensures.total ∙ ap (λ (x : Holding). x.segments + length c.settle.new.self.given) c.self.view_is

-- ---- where nothing is given

pub returns-else-len-eq-MOST_HELD-clause-few : goal.returns-else-len-eq-MOST_HELD-clause-few
returns-else-len-eq-MOST_HELD-clause-few c =
    omega (
      arith,
      c.len.ensures.long,
      c.len.ensures.few,
      c.if-len-eq-MOST_HELD.false,
      length-drop c.self.inside.gone c.seek-self-inside.new.held,
    )

pub returns-else-len-eq-MOST_HELD-clause-room : goal.returns-else-len-eq-MOST_HELD-clause-room
returns-else-len-eq-MOST_HELD-clause-room c =
    let none = none_given _ _ (ap (λ (x : Holding). x.heard) c.self.view_is ∙ c.requires.none) in
    omega (
      arith,
      c.len.ensures.long,
      c.len.ensures.few,
      c.requires.full,
      length-drop c.self.inside.gone c.seek-self-inside.new.held,
      ap (λ n. length (take n c.self.inside.giver.segments.items)) none,
    )

pub returns-else-len-eq-MOST_HELD-clause-leaves : goal.returns-else-len-eq-MOST_HELD-clause-leaves
unfolding restored_of segments_from
returns-else-len-eq-MOST_HELD-clause-leaves c = λ symbols done h.
    let kept = none_gone c.self.invariant (ap (λ (x : Holding). length x.held) c.self.view_is ∙ c.requires.full) in
    let none = none_given _ _ (ap (λ (x : Holding). x.heard) c.self.view_is ∙ c.requires.none) in (
      [],
      subst (Leaves _ symbols) (sym (append-nil done)) (leaves_sought _ _ symbols done
          (subst (λ (x : Holding). Leaves x symbols done) (sym c.self.view_is) h)
          (sought_all kept c.seek-self-inside.ensures.sought) refl refl refl refl refl refl),
      ap (λ n. take n c.self.inside.giver.segments.items) none,
      ap (segments_from c.seek-self-inside.new.held 0) none,
    )

pub returns-else-len-eq-MOST_HELD-clause-whole : goal.returns-else-len-eq-MOST_HELD-clause-whole
returns-else-len-eq-MOST_HELD-clause-whole c =
    let none = none_given _ _ (ap (λ (x : Holding). x.heard) c.self.view_is ∙ c.requires.none) in
    inl (ap (λ n. take n c.self.inside.giver.segments.items) none)

pub returns-else-len-eq-MOST_HELD-clause-same : goal.returns-else-len-eq-MOST_HELD-clause-same
returns-else-len-eq-MOST_HELD-clause-same c =
    let none = none_given _ _ (ap (λ (x : Holding). x.heard) c.self.view_is ∙ c.requires.none) in
    length-segments_from c.seek-self-inside.new.held 0 c.self.inside.giver.count ∙ none
    ∙ sym (ap (λ n. length (take n c.self.inside.giver.segments.items)) none)

pub returns-else-len-eq-MOST_HELD-clause-total : goal.returns-else-len-eq-MOST_HELD-clause-total
returns-else-len-eq-MOST_HELD-clause-total c =
    let none = none_given _ _ (ap (λ (x : Holding). x.heard) c.self.view_is ∙ c.requires.none) in
    omega (
      arith,
      ap (λ (x : Holding). x.segments) c.self.view_is,
      ap (λ n. length (take n c.self.inside.giver.segments.items)) none,
    )
