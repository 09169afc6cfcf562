use Rattle.std.proofs.Common.{◌≡◌, ℕ, ◌<◌, ◌-ℤ◌, pos, length, slice_index_or}
use Rattle.dtx_soft.specs.declared.nearest.Nearest.{Nearest}
use Rattle.dtx_soft.specs.Nearest.{AreNearest}
use Rattle.dtx_soft.proofs.nearest.fill.Given as goal

abbrev pub invariant-loop-n : goal.invariant-loop-n
invariant-loop-n l = record {
  long : length l.rows ≡ 256;
  done : (k : ℕ) (default : Nearest) → k < l.n
      → AreNearest l.scale (pos k -ℤ pos 128) (slice_index_or l.rows k default);
}
