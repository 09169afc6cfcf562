use Rattle.std.proofs.Common.{◌≡◌, ◌≤◌, ◌+◌, drop}
use Rattle.dtx_erase.specs.Mending.{lost}
use Rattle.dtx_erase.proofs.marks.lost.Given as goal

abbrev pub invariant-loop-i : goal.invariant-loop-i
invariant-loop-i l = record {
  sum : l.count + lost (drop l.i l.marks) ≡ lost l.fn.marks;
  few : l.count ≤ l.i;
}
