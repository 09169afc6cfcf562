use Rattle.std.proofs.Common.{ℕ, ◌<◌, ◌≤◌, get_or, pos}
use Rattle.dtx_soft.specs.Trace.{IsMoved, IsNext, stand_at}
use Rattle.dtx_soft.proofs.trace.trace_lanes.Given as goal

abbrev pub invariant-loop-n : goal.invariant-loop-n
invariant-loop-n l = record {
  done : (k : ℕ) → k < l.n → IsNext l.scale (get_or l.symbols k (pos 0)) (get_or l.marks k 0) (stand_at l.fn.stands k)
      (stand_at l.stands k) (get_or l.written k (pos 0));
  left : (k : ℕ) → l.n ≤ k → k < 16 → IsMoved l.scale (get_or l.symbols k (pos 0)) (get_or l.marks k 0)
      (stand_at l.fn.stands k) (stand_at l.stands k) (get_or l.written k (pos 0));
}
