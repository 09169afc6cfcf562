use Rattle.std.proofs.Common.{◌≡◌, ◌↔◌, ℕ, ◌*◌, ◌<◌, ◌≤◌, get_or}
use Rattle.dtx_soft.proofs.near.sum_of.Given as goal

abbrev pub invariant-loop-n : goal.invariant-loop-n
invariant-loop-n l = record {
  small : l.sum ≤ 255 * l.n;
  none : (l.sum ≡ 0) ↔ ((k : ℕ) → k < l.n → get_or l.far k 0 ≡ 0);
}
