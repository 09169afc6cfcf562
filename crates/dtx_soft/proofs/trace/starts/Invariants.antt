use Rattle.std.proofs.Common.{ℕ, ◌<◌}
use Rattle.dtx_soft.specs.Gaps.{gap_at}
use Rattle.dtx_soft.specs.Trace.{IsStart, stand_at}
use Rattle.dtx_soft.proofs.trace.starts.Given as goal

abbrev pub invariant-loop-n : goal.invariant-loop-n
invariant-loop-n l = (k : ℕ) → k < l.n → IsStart (gap_at l.gaps k) (stand_at l.stands k)
