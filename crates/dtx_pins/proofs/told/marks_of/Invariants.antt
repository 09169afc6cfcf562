use Rattle.std.proofs.Common.{◌≡◌, ℕ, ◌<◌, get_or, length}
use Rattle.dtx_pins.specs.Told.{told_mark}
use Rattle.dtx_pins.proofs.told.marks_of.Given as goal

abbrev pub invariant-loop-e : goal.invariant-loop-e
invariant-loop-e l = record {
  long : length l.marks ≡ 12;
  done : (k : ℕ) → k < l.e → get_or l.marks k 0 ≡ told_mark (get_or l.pins k 0);
}
