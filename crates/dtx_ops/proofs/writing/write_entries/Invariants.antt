use Rattle.std.proofs.Common.{◌≡◌, ℕ, ◌*◌, ◌<◌, ◌++◌, take, drop, get_or}
use Rattle.std.specs.List.{flat_map}
use Rattle.dtx_ops.specs.declared.fields.Entry.{Entry}
use Rattle.dtx_ops.specs.Spelling.{entry_bytes, IsEntry}
use Rattle.dtx_ops.proofs.writing.write_entries.Given as goal

abbrev pub invariant-loop-i : goal.invariant-loop-i
invariant-loop-i l = record {
  bytes : l.out ≡ flat_map entry_bytes (take l.i l.entries) ++ drop (4 * l.i) l.fn.out;
  are : (k : ℕ) (d : Entry) → k < l.i → IsEntry (get_or l.entries k d);
}
