use Rattle.std.proofs.Common.{◌≡◌, ℕ, ◌<◌, ◌≤◌, [], get_or, length}
use Rattle.dtx_soft.specs.Gaps.{column}
use Rattle.dtx_soft.specs.Trace.{stand_at}
use Rattle.dtx_soft.proofs.TracesLemmas.{IsUnderWay}
use Rattle.dtx_soft.proofs.trace.forward.Given as goal

abbrev pub invariant-loop-t : goal.invariant-loop-t
invariant-loop-t l = record {
  long : length l.rounds ≡ length l.fn.rounds;
  left : (k : ℕ) → l.t ≤ k → get_or l.rounds k [] ≡ get_or l.fn.rounds k [];
  under_way : (n : ℕ) → n < 16 → IsUnderWay l.scale (column l.fn.rounds n) (column l.rounds n) l.t (stand_at l.stands
      n);
}
