use Rattle.std.proofs.Common.{◌≡◌, ℕ, ℤ, ◌+◌, ◌-◌, ◌*◌, List, ◌++◌, length, take, drop, refl, sym, ap, ap₂, ◌∙◌}
use Rattle.std.proofs.Common.{arith, nat_eq, subst}
use Rattle.std.proofs.lemmas.Bool.{and_parts, cond-false, cond-true, eqb-true}
use Rattle.std.proofs.lemmas.List.{length-drop, length-take, length-take-le, take-append-drop, take_at}
use borrow.Rule.Slice.PartMut.{put_mid}
use Rattle.dtx_pins.specs.PinnedField.{rows_moved, IsPinned, pinned_cost}
use Rattle.dtx_rounds.specs.FieldRound.{field_cost, field_rounded, IsWritten}
use Rattle.dtx_rounds.specs.Known.{field_pins}
use Rattle.dtx_rounds.proofs.RowsRounded.{IsRounded, rounded_field, still_rows}
use Rattle.dtx_rounds.proofs.pinning.decide.Goals as goal

pub invariant_of-field-then-field-clause-cost_small : goal.invariant_of-field-then-field-clause-cost_small
invariant_of-field-then-field-clause-cost_small c =
    omega (
      arith,
      c.field-decision.ensures.most,
      c.in_groups-count.ensures.few,
      length-take (c.in_groups-count.result + 1 - 1) (drop 1 c.deref-then-field.result.now),
    )

pub invariant_of-field-then-field-clause-moved_small : goal.invariant_of-field-then-field-clause-moved_small
invariant_of-field-then-field-clause-moved_small c =
    omega (
      arith,
      c.field-decision.ensures.few,
      c.in_groups-count.ensures.few,
      length-take (c.in_groups-count.result + 1 - 1) (drop 1 c.deref-then-field.result.now),
    )

-- a part that is put back as it was
put_back : {A : Type 0} (a k n : ℕ) (xs items part : List A) → xs ≡ items → part ≡ take k (drop a xs)
    → length items ≡ n → take n (put_mid a k xs part ++ drop (length (put_mid a k xs part)) items) ≡ items
put_back a k n xs items part same back long =
    let all : put_mid a k xs part ≡ items = ap (put_mid a k xs) back
    ∙ ap (λ ys. take a xs ++ ys) (take-append-drop k (drop a xs)) ∙ take-append-drop a xs ∙ same in
    ap (λ ys. take n (ys ++ drop (length ys) items)) all ∙ take_at items (drop (length items) items) n long

-- where nothing moved, the bytes are those of the segments
pub invariant_of-field-then-field-clause-kept : goal.invariant_of-field-then-field-clause-kept
invariant_of-field-then-field-clause-kept c = λ e.
    let parts = and_parts c.args.field.now.written (nat_eq c.field-decision.result.moved 0) e in
    subst (λ rows. IsWritten c.args.field.now.count rows c.args.field.now.last c.args.field.now.bytes.items)
    (sym (put_back 1 (c.in_groups-count.result + 1 - 1) c.args.field.now.decided.len
    c.deref_mut-then-field.result.now
    c.args.field.now.decided.items c.field-decision.new.decided c.deref_mut-then-field.ensures.value
    (c.field-decision.ensures.still (eqb-true _ _ parts.1)) (sym c.args.field.now.decided.ok.0)))
    (c.args.field.now.kept parts.0)

pub returns-then-field-clause-decided : goal.returns-then-field-clause-decided
returns-then-field-clause-decided c = record {
  decided = ap (take n) back
      ∙ is.rows
      ∙ ap₂ (λ received known. field_rounded c.args.means.now.decoder (take n received) known (take n given))
      c.deref-then-field.ensures.value c.deref.ensures.value
      ∙ ap (λ rows. field_rounded c.args.means.now.decoder (take n c.args.field.now.heard.items)
      c.args.field.now.known.items (take n rows)) c.deref_mut-then-field.ensures.value
      ∙ sym (cond-true c.args.field.now.knows_more _ (take n c.args.field.now.decided.items) c.if-field.true);
  cost = is.cost_is
      ∙ ap₂ (λ received known. field_cost c.args.means.now.decoder (take n received) known)
      c.deref-then-field.ensures.value
      c.deref.ensures.value
      ∙ sym (cond-true c.args.field.now.knows_more _ c.args.field.now.cost c.if-field.true);
  moved = is.moved_is
      ∙ ap₂ (λ old new. rows_moved (take n old) (take n new)) c.deref_mut-then-field.ensures.value (sym back);
  count = refl;
  heard = refl;
  known = refl;
  words = refl;
  knows_more = refl;
}
  where
    n : ℕ
    n = c.args.field.now.count

    k : ℕ
    k = c.in_groups-count.result + 1 - 1

    heard : List (List ℤ)
    heard = c.deref-then-field.result.now

    given : List (List ℤ)
    given = c.deref_mut-then-field.result.now

    heard_long : length heard ≡ 313
    heard_long = c.deref-then-field.ensures.len ∙ c.args.field.now.heard_long

    made : List (List ℤ)
    made = put_mid 1 k given c.field-decision.new.decided

    rows : List (List ℤ)
    rows = take k (drop 1 heard)

    pins : c.put_pins.new.pins ≡ field_pins c.deref.result.now 0 (69 * length rows)
    pins =
        c.put_pins.ensures.pins
        ∙ ap (field_pins c.deref.result.now 0) (length-take-le
        (69 * c.in_groups-count.result - 0) c.deref_mut.result.now
        (omega (arith, c.deref_mut.ensures.len, c.args.means.now.pins_long, c.in_groups-count.ensures.few))
        ∙ omega (arith, c.in_groups-count.ensures.few, heard_long, length-drop 1 heard, length-take k (drop 1 heard)))

    is : IsRounded c.args.means.now.decoder n heard given c.deref.result.now made c.field-decision.result.cost
        c.field-decision.result.moved
    is =
        rounded_field c.args.means.now.decoder n k heard given c.field-decision.new.decided c.deref.result.now
        c.field-decision.result.cost c.field-decision.result.moved c.args.means.now.some
        (omega (arith, c.args.means.now.most)) c.args.field.now.few heard_long
        (c.deref_mut-then-field.ensures.len ∙ c.args.field.now.decided_long)
        (omega (arith, c.in_groups-count.ensures.is))
        (c.field-decision.ensures.cost ∙ ap (λ pins. pinned_cost c.args.means.now.decoder pins rows) pins)
        (subst (λ pins. IsPinned c.args.means.now.decoder 1 pins rows (take k (drop 1 given))
        c.field-decision.new.decided) pins c.field-decision.ensures.segments)
        c.field-decision.ensures.moved c.known_long.ensures c.known_long-then-field.ensures

    back : take c.args.field.now.decided.len (made ++ drop (length made) c.args.field.now.decided.items) ≡ made
    back =
        take_at made (drop (length made) c.args.field.now.decided.items) c.args.field.now.decided.len
        (is.long ∙ sym c.args.field.now.decided_long)

pub returns-else-field-clause-decided : goal.returns-else-field-clause-decided
returns-else-field-clause-decided c = record {
  decided = sym (cond-false c.args.field.now.knows_more _ _ c.if-field.false);
  cost = sym (cond-false c.args.field.now.knows_more _ c.args.field.now.cost c.if-field.false);
  moved = sym (still_rows (take c.args.field.now.count c.args.field.now.decided.items));
  count = refl;
  heard = refl;
  known = refl;
  words = refl;
  knows_more = c.if-field.false;
}
