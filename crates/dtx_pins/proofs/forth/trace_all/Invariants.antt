use Rattle.std.proofs.Common.{◌≡◌, ℕ, ◌<◌, ◌≤◌, get_or, length, pos}
use Rattle.dtx_pins.specs.Trace.{IsMoved, IsNext, stand_at}
use Rattle.dtx_pins.proofs.forth.trace_all.Given as goal

abbrev pub invariant-loop-e : goal.invariant-loop-e
invariant-loop-e l = record {
  written_long : length l.written ≡ 16;
  done : (k : ℕ) → k < l.e → IsNext l.scale (get_or l.symbols k (pos 0)) (get_or l.marks k 0) (stand_at l.fn.stands k)
      (stand_at l.stands k) (get_or l.written k (pos 0));
  left : (k : ℕ) → l.e ≤ k → k < 16 → IsMoved (get_or l.marks k 0) (stand_at l.fn.stands k) (stand_at l.stands k)
      (get_or l.levels k 0);
}
