use Rattle.std.proofs.Common.{◌≡◌, ◌<◌, ◌-ℤ◌, ℕ, pos, get_or, length}
use Rattle.dtx_acquire.specs.Acquired.{IsLevel}
use Rattle.dtx_acquire.proofs.deciding.fill.Given as goal

abbrev pub invariant-loop-n : goal.invariant-loop-n
invariant-loop-n l = record {
  long : length l.levels ≡ 256;
  done : (k : ℕ) → k < l.n → IsLevel l.scale (pos k -ℤ pos 128) (get_or l.levels k 0);
}
