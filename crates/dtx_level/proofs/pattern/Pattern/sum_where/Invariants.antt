use Rattle.std.proofs.Common.{◌≡◌, ◌*◌, ◌≤◌, nat_abs}
use Rattle.dtx_level.specs.Shown.{sum_where}
use Rattle.dtx_level.proofs.pattern.Pattern.sum_where.Given as goal

abbrev pub invariant-loop-i : goal.invariant-loop-i
invariant-loop-i l = record {
  few : l.i ≤ 515;
  sum : l.sum ≡ sum_where l.plus l.symbols l.place l.i;
  small : nat_abs l.sum ≤ 128 * l.i;
}
