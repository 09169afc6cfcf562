use Rattle.std.proofs.Common.{◌≡◌, length}
use Rattle.dtx_ops.specs.Fields.{entries_in}
use Rattle.dtx_ops.proofs.reading.entries.Given as goal

abbrev pub invariant-loop-i : goal.invariant-loop-i
invariant-loop-i l = record {
  count : length l.found.items ≡ l.i;
  read : l.found.items ≡ entries_in l.i l.bytes;
}
