use Rattle.std.proofs.Common.{◌≡◌, ◌+◌, ◌++◌, ◌<◌, ◌≤◌, ℕ, ℤ, List, [], length, take, refl, sym, ap, ◌∙◌, subst, arith}
use Rattle.std.proofs.lemmas.List.{append-nil, length-take-le}
use Rattle.dtx_acquire.specs.Acquired.{Field, acquired_so_far, heard_in, heard_so_far, restored_of, segments_from}
use Rattle.dtx_acquire.specs.Acquired.{settled_fields}
use Rattle.dtx_acquire.specs.Acquirer.{Holding, Leaves, StandsFor}
use Rattle.dtx_acquire.proofs.Fit.{fit_more}
use Rattle.dtx_acquire.proofs.Leaving.{heard_by, leaves_more, so_far_by, stands_by}
use Rattle.dtx_acquire.proofs.acquirer.Acquirer.take.Goals as goal

-- ---- what is true of the fields

pub forget-requires : goal.forget-requires
forget-requires c = c.self.invariant.within

pub invariant_of-self : goal.invariant_of-self
invariant_of-self c =
    let more = take c.take-count.result c.args.symbols.now in
    fit_more more (length c.args.symbols.now) c.self.invariant
    (c.take-count.ensures.held ∙ ap (λ (xs : List ℤ). xs ++ more) c.forget.ensures)
    (length-take-le c.take-count.result c.args.symbols.now c.take-count.ensures.within)
    (subst (λ (x : Holding). x.symbols + length c.args.symbols.now ≤ 520832000000) (sym c.self.view_is) c.requires.most)
    c.take-count.ensures.within (omega (arith, c.len.ensures.long, c.len.ensures.few))

pub invariant_of-self-else-len-eq-MOST_HELD : goal.invariant_of-self-else-len-eq-MOST_HELD
invariant_of-self-else-len-eq-MOST_HELD c =
    let more = take c.take-count.result c.args.symbols.now in
    fit_more more (length c.args.symbols.now) c.self.invariant
    (c.take-count.ensures.held ∙ ap (λ (xs : List ℤ). xs ++ more) c.forget.ensures)
    (length-take-le c.take-count.result c.args.symbols.now c.take-count.ensures.within)
    (subst (λ (x : Holding). x.symbols + length c.args.symbols.now ≤ 520832000000) (sym c.self.view_is) c.requires.most)
    c.take-count.ensures.within (omega (arith, c.len.ensures.long, c.len.ensures.few))

pub turn-requires-clause-none : goal.turn-requires-clause-none
unfolding segments_from
turn-requires-clause-none c = refl

pub turn-requires-clause-full : goal.turn-requires-clause-full
turn-requires-clause-full c = sym c.len.ensures.long ∙ c.if-len-eq-MOST_HELD.true

-- ---- where the buffer is full

-- the fields that the turn has brought
record AreTurned (new : Holding) (scale : ℕ) (before symbols : List ℤ) (fields : List Field) : Type 0 where
  leaves : Leaves new symbols (settled_fields before ++ fields)
  gives : new.given ≡ restored_of scale fields
  hears : new.heard ≡ heard_in fields

turned : (c : goal.After-turn) (before : List ℤ) → StandsFor c.args.self.now before
    → (fields : List Field) × AreTurned c.turn.new.self c.args.self.now.scale before
    (before ++ take c.take-count.result c.args.symbols.now) fields
turned c before h =
    let more = take c.take-count.result c.args.symbols.now in
    let long : length more ≡ c.take-count.result =
    length-take-le c.take-count.result c.args.symbols.now c.take-count.ensures.within in
    let was = subst (λ (x : Holding). StandsFor x before) (sym c.self.view_is) h in
    let found = c.turn.ensures.leaves (before ++ more) (settled_fields before) (leaves_more _ _ before more
    (settled_fields before) was.leaves
    (c.take-count.ensures.held ∙ ap (λ (xs : List ℤ). xs ++ more) c.forget.ensures) refl
    (ap (λ n. c.self.inside.symbols + n) (sym long)) refl refl refl refl) in (
      found.0,
      record {
        leaves = found.1;
        gives = found.2 ∙ ap (λ (x : Holding). restored_of x.scale found.0) c.self.view_is;
        hears = found.3;
      },
    )

pub returns-then-len-eq-MOST_HELD-clause-stands : goal.returns-then-len-eq-MOST_HELD-clause-stands
returns-then-len-eq-MOST_HELD-clause-stands c = λ before h.
    let found = turned c before h in
    stands_by c.turn.new.self _ (settled_fields before ++ found.0) found.1.leaves c.turn.ensures.few

pub returns-then-len-eq-MOST_HELD-clause-given : goal.returns-then-len-eq-MOST_HELD-clause-given
returns-then-len-eq-MOST_HELD-clause-given c = λ before h.
    let found = turned c before h in
    so_far_by c.turn.new.self before _ found.0 c.args.self.now.scale found.1.leaves c.turn.ensures.few
    ∙ ap (λ xs. acquired_so_far c.args.self.now.scale before ++ xs) (sym found.1.gives)

pub returns-then-len-eq-MOST_HELD-clause-heard : goal.returns-then-len-eq-MOST_HELD-clause-heard
returns-then-len-eq-MOST_HELD-clause-heard c = λ before h.
    let found = turned c before h in
    heard_by c.turn.new.self before _ found.0 found.1.leaves c.turn.ensures.few
    ∙ ap (λ xs. heard_so_far before ++ xs) (sym found.1.hears)

pub returns-then-len-eq-MOST_HELD-clause-total : goal.returns-then-len-eq-MOST_HELD-clause-total
returns-then-len-eq-MOST_HELD-clause-total c =
    c.turn.ensures.total ∙ ap (λ (x : Holding). x.segments + length c.turn.new.self.given) c.self.view_is

-- ---- where it isn't

-- what it holds then
abbrev held_now : goal.Else-len-eq-MOST_HELD → Holding
held_now c = record {
  scale = c.self.inside.giver.decisions.scale;
  held = c.take-count.new.self;
  on = c.self.inside.on;
  begins = c.self.inside.begins;
  given = [];
  heard = [];
  symbols = c.self.inside.symbols + c.take-count.result;
  runs = c.self.inside.giver.runs;
  segments = c.self.inside.giver.total;
  cost = c.self.inside.giver.cost;
}

few_now : (c : goal.Else-len-eq-MOST_HELD) → length c.take-count.new.self < 261248
few_now c = omega (arith, c.len.ensures.long, c.len.ensures.few, c.if-len-eq-MOST_HELD.false)

leaves_now : (c : goal.Else-len-eq-MOST_HELD) (before : List ℤ) → StandsFor c.args.self.now before
    → Leaves (held_now c) (before ++ take c.take-count.result c.args.symbols.now) (settled_fields before)
leaves_now c before h =
    let more = take c.take-count.result c.args.symbols.now in
    let long : length more ≡ c.take-count.result =
    length-take-le c.take-count.result c.args.symbols.now c.take-count.ensures.within in
    let was = subst (λ (x : Holding). StandsFor x before) (sym c.self.view_is) h in
    leaves_more _ _ before more (settled_fields before) was.leaves
    (c.take-count.ensures.held ∙ ap (λ (xs : List ℤ). xs ++ more) c.forget.ensures) refl
    (ap (λ n. c.self.inside.symbols + n) (sym long)) refl refl refl refl

leaves_none : (c : goal.Else-len-eq-MOST_HELD) (before : List ℤ) → StandsFor c.args.self.now before
    → Leaves (held_now c) (before ++ take c.take-count.result c.args.symbols.now) (settled_fields before ++ [])
leaves_none c before h =
    subst (Leaves (held_now c) (before ++ take c.take-count.result c.args.symbols.now))
    (sym (append-nil (settled_fields before))) (leaves_now c before h)

pub returns-else-len-eq-MOST_HELD-clause-stands : goal.returns-else-len-eq-MOST_HELD-clause-stands
unfolding segments_from
returns-else-len-eq-MOST_HELD-clause-stands c = λ before h.
    stands_by (held_now c) _ (settled_fields before) (leaves_now c before h) (few_now c)

pub returns-else-len-eq-MOST_HELD-clause-given : goal.returns-else-len-eq-MOST_HELD-clause-given
unfolding restored_of
returns-else-len-eq-MOST_HELD-clause-given c = λ before h.
    so_far_by (held_now c) before _ [] c.args.self.now.scale (leaves_none c before h) (few_now c)

pub returns-else-len-eq-MOST_HELD-clause-heard : goal.returns-else-len-eq-MOST_HELD-clause-heard
unfolding segments_from
returns-else-len-eq-MOST_HELD-clause-heard c = λ before h.
    heard_by (held_now c) before _ [] (leaves_none c before h) (few_now c)

pub returns-else-len-eq-MOST_HELD-clause-same : goal.returns-else-len-eq-MOST_HELD-clause-same
unfolding segments_from
returns-else-len-eq-MOST_HELD-clause-same c = refl
