use Rattle.std.proofs.Common.{◌≡◌, ℕ, ◌<◌}
use Rattle.dtx_soft.specs.Gaps.{gap_at}
use Rattle.dtx_soft.proofs.near.widened.Given as goal

abbrev pub invariant-loop-n : goal.invariant-loop-n
invariant-loop-n l = (k : ℕ) → k < l.n → gap_at l.wide k ≡ gap_at l.gaps k
