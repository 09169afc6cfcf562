use Rattle.std.proofs.Common.{◌≡◌, ℕ, ◌+◌, ◌-◌, ◌*◌, ◌%◌, ◌<◌, ◌≤◌, [], get_or, length, pos, w8}
use mir.Val.{SFits}
use Rattle.dtx_pins.specs.Pins.{pin_at}
use Rattle.dtx_pins.specs.Told.{IsLane, lane_at, lane_behind, told_mark}
use Rattle.dtx_pins.proofs.told.told_segment.Given as goal

abbrev pub invariant-loop-r : goal.invariant-loop-r
invariant-loop-r l = record {
  long : length l.cells ≡ 69;
  lanes : (e : ℕ) → e < 12 → lane_at l.told e
      ≡ lane_behind l.scale (λ r. pin_at (get_or l.fn.cells r []) e)
      (λ r. get_or l.heard (4 + 12 * r + (e + 12 - 4 * l.turn) % 12) (pos 0)) l.r (lane_at l.fn.told e);
  small : (e : ℕ) → e < 16 → IsLane l.r (lane_at l.told e);
  marks : (r e : ℕ) → r < l.r → e < 12
      → get_or (get_or l.cells r []) e 0 ≡ told_mark (pin_at (get_or l.fn.cells r []) e);
  left : (r : ℕ) → l.r ≤ r → get_or l.cells r [] ≡ get_or l.fn.cells r [];
  bytes : (r e : ℕ) → r < l.r → e < 12
      → SFits w8 (get_or l.heard (4 + 12 * r + (e + 12 - 4 * l.turn) % 12) (pos 0));
}
