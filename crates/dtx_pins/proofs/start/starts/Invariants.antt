use Rattle.std.proofs.Common.{ℕ, ◌<◌, [], get_or}
use Rattle.dtx_pins.specs.Pins.{pin_at}
use Rattle.dtx_pins.specs.Trace.{IsStand, IsStart, stand_at}
use Rattle.dtx_pins.proofs.start.starts.Given as goal

abbrev pub invariant-loop-e : goal.invariant-loop-e
invariant-loop-e l = record {
  starts : (k : ℕ) → k < l.e → IsStart (pin_at l.first k) (get_or l.behind k []) (stand_at l.stands k);
  stands : (k : ℕ) → k < 16 → IsStand 0 (stand_at l.stands k);
}
