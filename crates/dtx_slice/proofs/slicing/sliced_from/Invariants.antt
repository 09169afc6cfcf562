use Rattle.std.proofs.Common.{◌≡◌, ℕ, ◌+◌, ◌<◌, pos, get_or, length}
use Rattle.dtx_slice.specs.Slicing.{sliced}
use Rattle.dtx_slice.proofs.slicing.sliced_from.Given as goal

abbrev pub invariant-loop-p : goal.invariant-loop-p
invariant-loop-p l = record {
  long : length l.lanes ≡ 16;
  written : (k : ℕ) → k < l.p → get_or l.lanes k 0 ≡ sliced (get_or l.segment (4 + (l.from + k)) (pos 0));
}
