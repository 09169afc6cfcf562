use Rattle.std.proofs.Common.{◌≡◌, ◌≤◌, length, take}
use Rattle.dtx_make.specs.Hurt.{damaged_bytes}
use Rattle.dtx_make.proofs.laying.lay.Given as goal

abbrev pub invariant-loop-i : goal.invariant-loop-i
invariant-loop-i l = record {
  within : l.i ≤ length l.damage;
  bytes : l.bytes ≡ damaged_bytes (take l.i l.damage) l.place l.fn.bytes;
}
