use Rattle.std.proofs.Common.{◌≡◌, ◌*◌, ◌∙◌, take, drop, length, get_or, refl, pos, arith}
use Rattle.std.proofs.lemmas.List.{length-take}
use Rattle.std.specs.List.{flat_map}
use Rattle.dtx_ops.specs.declared.fields.Entry.{Entry}
use Rattle.dtx_ops.specs.Spelling.{entry_bytes}
use Rattle.dtx_ops.proofs.EntriesLemmas.{length-entries, one_more_entry}
use Rattle.dtx_ops.proofs.Writes.{wrote_at, entries_more}
use Rattle.dtx_ops.proofs.writing.write_entries.Goals as goal

pub loop-i-preserved : goal.loop-i-preserved
loop-i-preserved c =
    let es = c.args.entries.now in
    let i = c.loop-i.i in
    let none : Entry = record { address = 0; offset = pos 0 } in
    let long : length (flat_map entry_bytes (take i es)) ≡ 4 * i =
    omega (arith, length-entries (take i es), length-take i es) in
    record {
      bytes =
          wrote_at (4 * i) _ (flat_map entry_bytes (take i es)) (drop (4 * i) c.args.out.now)
          (entry_bytes (get_or es i none)) c.loop-i.out c.write_entry.new.out 4
          c.loop-i.invariant.bytes long refl c.write_entry.ensures.bytes
          ∙ entries_more es i none c.args.out.now (omega arith);
      are = one_more_entry es i none (omega arith) c.write_entry.ensures.is c.loop-i.invariant.are;
    }
