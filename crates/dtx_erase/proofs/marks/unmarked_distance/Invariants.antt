use Rattle.std.proofs.Common.{◌≡◌, ◌≤◌, ◌+◌, drop}
use Rattle.dtx_erase.specs.Mending.{unmarked_distance}
use Rattle.dtx_erase.proofs.marks.unmarked_distance.Given as goal

abbrev pub invariant-loop-i : goal.invariant-loop-i
invariant-loop-i l = record {
  sum : l.count + unmarked_distance (drop l.i l.marks) (drop l.i l.word) (drop l.i l.other)
      ≡ unmarked_distance l.fn.marks l.fn.word l.fn.other;
  few : l.count ≤ l.i;
}
