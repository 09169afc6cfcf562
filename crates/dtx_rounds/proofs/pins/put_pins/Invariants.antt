use Rattle.std.proofs.Common.{◌≡◌, ℕ, ◌*◌, ◌<◌, [], get_or, length}
use Rattle.dtx_rounds.specs.Known.{known_pin}
use Rattle.dtx_rounds.proofs.pins.put_pins.Given as goal

abbrev pub invariant-loop-b : goal.invariant-loop-b
invariant-loop-b l = record {
  pins : (t e : ℕ) → t < 4 * l.b → e < 12 → get_or (get_or l.pins t []) e 0 ≡ known_pin l.known e t;
  rows : (t : ℕ) → t < 4 * l.b → length (get_or l.pins t []) ≡ 12;
  long : length l.pins ≡ length l.fn.pins;
}
