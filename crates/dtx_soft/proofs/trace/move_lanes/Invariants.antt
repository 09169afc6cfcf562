use Rattle.std.proofs.Common.{◌≡◌, ℕ, ◌<◌, ◌≤◌, get_or, length, pos}
use Rattle.dtx_soft.specs.Trace.{IsMoved, stand_at}
use Rattle.dtx_soft.proofs.trace.move_lanes.Given as goal

abbrev pub invariant-loop-n : goal.invariant-loop-n
invariant-loop-n l = record {
  long : length l.written ≡ 16;
  done : (k : ℕ) → k < l.n → IsMoved l.scale (get_or l.symbols k (pos 0)) (get_or l.marks k 0) (stand_at l.fn.stands k)
      (stand_at l.stands k) (get_or l.written k (pos 0));
  left : (k : ℕ) → l.n ≤ k → stand_at l.stands k ≡ stand_at l.fn.stands k;
}
