use Rattle.std.proofs.Common.{◌≡◌, ◌≤◌, length, take}
use Rattle.dtx_make.specs.Hurt.{damaged_from}
use Rattle.dtx_make.proofs.laying.damaged_in.Given as goal

abbrev pub invariant-loop-i : goal.invariant-loop-i
invariant-loop-i l = record {
  within : l.i ≤ length l.damage;
  damaged : l.damaged ≡ damaged_from (take l.i l.damage) l.place l.count;
}
