use Rattle.std.proofs.Common.{◌≡◌, ℕ, ◌+◌, ◌<◌, pos, get_or, length}
use Rattle.dtx_acquire.specs.Acquired.{IsLevel}
use Rattle.dtx_acquire.proofs.deciding.Decisions.levels.Given as goal

abbrev pub invariant-loop-d : goal.invariant-loop-d
invariant-loop-d l = record {
  long : length l.out ≡ 828;
  written : (k : ℕ) → k < l.d → IsLevel l.self.scale (get_or l.segment (4 + k) (pos 0)) (get_or l.out k 0);
}
