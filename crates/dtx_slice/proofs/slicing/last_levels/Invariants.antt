use Rattle.std.proofs.Common.{◌≡◌, ℕ, ◌+◌, ◌<◌, pos, get_or, length}
use Rattle.dtx_slice.specs.Slicing.{sliced}
use Rattle.dtx_slice.proofs.slicing.last_levels.Given as goal

abbrev pub invariant-loop-q : goal.invariant-loop-q
invariant-loop-q l = record {
  long : length l.out ≡ 12;
  written : (k : ℕ) → k < l.q → get_or l.out k 0 ≡ sliced (get_or l.segment (820 + k) (pos 0));
}
