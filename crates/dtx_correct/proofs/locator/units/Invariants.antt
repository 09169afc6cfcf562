use Rattle.std.proofs.Common.{◌≡◌, ℕ, ◌<◌, slice_index_or, length, []}
use Rattle.dtx_correct.specs.Elimination.{IsUnit}
use Rattle.dtx_correct.proofs.locator.units.Given as goal

abbrev pub invariant-loop-k : goal.invariant-loop-k
invariant-loop-k l = record {
  done : (k : ℕ) → k < l.k → IsUnit k (slice_index_or l.vectors k []);
  long : length l.vectors ≡ 128;
}
