use Rattle.std.proofs.Common.{◌≡◌, ℕ, ◌+◌, ◌-◌, ◌*◌, ◌%◌, ◌<◌, ◌≤◌, [], drop, get_or, length, pos, w8}
use mir.Val.{SFits}
use Rattle.dtx_soft.specs.Coders.{coder_symbols}
use Rattle.dtx_pins.specs.Pins.{coder_pins, pin_at}
use Rattle.dtx_pins.specs.Told.{IsLane, IsWithin, beginning, excess_at, lane_at, told_mark}
use Rattle.dtx_pins.proofs.ToldSums.{lane_at_end}
use Rattle.dtx_pins.proofs.ToldWalks.{whole}
use Rattle.dtx_pins.proofs.told.told_sums.Given as goal

abbrev pub invariant-loop-i : goal.invariant-loop-i
invariant-loop-i l = record {
  long : length l.cells ≡ 69 * length l.heard;
  lanes : (e : ℕ) → e < 12
      → lane_at_end l.scale (drop (69 * l.i) (coder_pins l.fn.cells e)) (drop (69 * l.i) (coder_symbols l.heard e))
      (whole (excess_at l.totals e) (lane_at l.told e))
      ≡ lane_at_end l.scale (coder_pins l.fn.cells e) (coder_symbols l.heard e) beginning;
  fresh : (e : ℕ) → e < 16 → IsLane 0 (lane_at l.told e);
  totals : (e : ℕ) → e < 16 → IsWithin (69 * l.i) (excess_at l.totals e);
  marks : (t e : ℕ) → t < 69 * l.i → e < 12
      → get_or (get_or l.cells t []) e 0 ≡ told_mark (pin_at (get_or l.fn.cells t []) e);
  left : (t : ℕ) → 69 * l.i ≤ t → get_or l.cells t [] ≡ get_or l.fn.cells t [];
  bytes : (i r e : ℕ) → i < l.i → r < 69 → e < 12
      → SFits w8 (get_or (get_or l.heard i []) (4 + 12 * r + (e + 12 - 4 * (i % 3)) % 12) (pos 0));
}
