use Rattle.std.proofs.Common.{ℕ, ◌<◌, ◌≤◌, [], get_or}
use Rattle.dtx_pins.specs.Pins.{pin_at}
use Rattle.dtx_pins.proofs.field.are_all_told.Given as goal

abbrev pub invariant-loop-row : goal.invariant-loop-row
invariant-loop-row l = record {
  most : (t e : ℕ) → t < l.row-index → e < 12 → pin_at (get_or l.pins t []) e ≤ l.highest;
  told : ((t e : ℕ) → t < l.row-index → e < 12 → pin_at (get_or l.pins t []) e < 4) → l.highest < 4;
}

abbrev pub invariant-loop-pin : goal.invariant-loop-pin
invariant-loop-pin l = record {
  before : (t e : ℕ) → t < l.row-index → e < 12 → pin_at (get_or l.pins t []) e ≤ l.highest;
  row : (e : ℕ) → e < l.pin-index → pin_at l.row e ≤ l.highest;
  told : ((t e : ℕ) → t < l.row-index → e < 12 → pin_at (get_or l.pins t []) e < 4)
      → ((e : ℕ) → e < l.pin-index → pin_at l.row e < 4) → l.highest < 4;
}
