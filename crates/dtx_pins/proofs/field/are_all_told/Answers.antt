use Rattle.std.proofs.Common.{◌≡◌, ◌≢◌, ◌⊎◌, inl, inr, ℕ, ◌+◌, ◌<◌, ◌≤◌, List, [], get_or, sym, subst, arith, rules}
use Rattle.std.proofs.lemmas.Bool.{cases_eq}
use Rattle.std.proofs.lemmas.List.{get_or_default}
use Rattle.dtx_pins.specs.Pins.{pin_at}
use Rattle.dtx_pins.proofs.field.are_all_told.Goals as goal

pub loop-pin-preserved : goal.loop-pin-preserved
loop-pin-preserved c = record {
  before = search rules;
  row = λ e l. highest e l (cases_eq e c.loop-pin.pin-index);
  told = λ h k.
      let before = c.loop-pin.invariant.told h (λ e l. k e (omega arith)) in
      let here = k c.loop-pin.pin-index (omega arith) in
      grind (arith, before, here, read, c.max-highest.ensures);
}
  where
    row : List ℕ
    row = get_or c.args.pins.now c.loop-row.row-index []

    read : get_or row c.loop-pin.pin-index 0 ≡ pin_at row c.loop-pin.pin-index
    read = get_or_default row c.loop-pin.pin-index 0 4 (search rules)

    highest : (e : ℕ) → e < c.loop-pin.pin-index + 1 → (e ≡ c.loop-pin.pin-index) ⊎ (e ≢ c.loop-pin.pin-index)
        → pin_at row e ≤ c.max-highest.result
    highest e l (inl same) =
        subst (λ e. pin_at row e ≤ c.max-highest.result) (sym same) (grind (arith, read, c.max-highest.ensures))
    highest e l (inr other) =
        let before = c.loop-pin.invariant.row e (omega (arith, l, other)) in
        grind (arith, before, c.max-highest.ensures)
