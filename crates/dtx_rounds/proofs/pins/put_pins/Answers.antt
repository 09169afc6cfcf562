use Rattle.std.proofs.Common.{◌≡◌, ℕ, ◌+◌, ◌-◌, ◌*◌, ◌/◌, ◌%◌, ◌<◌, ◌≤◌, ◌⊎◌, inl, inr, List, [], length}
use Rattle.std.proofs.Common.{get_or, sym, ap, ◌∙◌, subst, arith}
use Rattle.std.proofs.lemmas.Bool.{cases_lt}
use borrow.Rule.Slice.PartMut.{put_mid}
use Rattle.dtx_lists.proofs.Written.{length-put_mid}
use Rattle.dtx_rounds.specs.Known.{known_pin, pin_of}
use Rattle.dtx_rounds.proofs.PinRows.{all_pins, mid_at, mid_before, part_entry, row_pin}
use Rattle.dtx_rounds.proofs.pins.put_pins.Goals as goal

pub loop-b-preserved : goal.loop-b-preserved
loop-b-preserved c = record {
  pins = λ t e l m. pin t e m (cases_lt t (4 * b)) l;
  rows = λ t l. row t (cases_lt t (4 * b)) l;
  long = length-put_mid (4 * b) (4 * b + 4 - 4 * b) c.loop-b.pins c.put_row.new.pins (omega (arith, room))
      (omega (arith, four)) ∙ c.loop-b.invariant.long;
}
  where
    b : ℕ
    b = c.loop-b.b

    four : length c.put_row.new.pins ≡ 4
    four = omega arith

    room : 4 * b + 4 ≤ length c.loop-b.pins
    room = omega (arith, c.loop-b.invariant.long, c.loop-b-test.true)

    new : List (List ℕ)
    new = put_mid (4 * b) (4 * b + 4 - 4 * b) c.loop-b.pins c.put_row.new.pins

    back : (t : ℕ) → 4 * b ≤ t → 4 * b + (t - 4 * b) ≡ t
    back t l = omega arith

    here : (i : ℕ) → i < 4 → get_or new (4 * b + i) [] ≡ get_or c.put_row.new.pins i []
    here i l =
        mid_at (4 * b) (4 * b + 4 - 4 * b) i c.loop-b.pins c.put_row.new.pins (omega (arith, four, l))
        (omega (arith, room))

    there : (t : ℕ) → t < 4 * b → get_or new t [] ≡ get_or c.loop-b.pins t []
    there t l =
        mid_before (4 * b) (4 * b + 4 - 4 * b) t c.loop-b.pins c.put_row.new.pins l (omega (arith, room))

    written : (i e : ℕ) → i < 4 → e < 12
        → get_or (get_or new (4 * b + i) []) e 0 ≡ known_pin c.args.known.now e (4 * b + i)
    written i e l m =
        ap (λ (xs : List ℕ). get_or xs e 0) (here i l) ∙ c.put_row.ensures.pins i e l m
        ∙ ap (λ o. pin_of o i) (part_entry (12 * b) (12 * b + 12 - 12 * b) ((e + 12 - 4 * (4 * b / 69 % 3)) % 12)
        c.args.known.now (omega arith))
        ∙ sym (row_pin c.args.known.now b i e l m)

    pin : (t e : ℕ) → e < 12 → (t < 4 * b) ⊎ (4 * b ≤ t) → t < 4 * (b + 1)
        → get_or (get_or new t []) e 0 ≡ known_pin c.args.known.now e t
    pin t e m (inl before) l =
        ap (λ (xs : List ℕ). get_or xs e 0) (there t before) ∙ c.loop-b.invariant.pins t e before m
    pin t e m (inr behind) l =
        subst (λ t. get_or (get_or new t []) e 0 ≡ known_pin c.args.known.now e t) (back t behind)
        (written (t - 4 * b) e (omega arith) m)

    row : (t : ℕ) → (t < 4 * b) ⊎ (4 * b ≤ t) → t < 4 * (b + 1) → length (get_or new t []) ≡ 12
    row t (inl before) l = ap length (there t before) ∙ c.loop-b.invariant.rows t before
    row t (inr behind) l =
        subst (λ t. length (get_or new t []) ≡ 12) (back t behind)
        (ap length (here (t - 4 * b) (omega arith)) ∙ c.put_row.ensures.rows (t - 4 * b) (omega arith))

pub returns-clause-pins : goal.returns-clause-pins
returns-clause-pins c =
    all_pins c.args.known.now (length c.args.pins.now) c.loop-b.pins c.loop-b.invariant.long
    (λ t l. c.loop-b.invariant.rows t (within t l)) (λ t e l m. c.loop-b.invariant.pins t e (within t l) m)
  where
    within : (t : ℕ) → t < length c.args.pins.now → t < 4 * c.loop-b.b
    within t l = omega (arith, l, c.loop-b-test.false, c.requires.whole)
