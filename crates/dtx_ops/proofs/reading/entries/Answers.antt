use Rattle.std.proofs.Common.{◌*◌, List, [], ◌∷◌, ◌++◌, length, drop, ap, ap₂, sym, ◌∙◌, length-append, arith}
use Rattle.std.proofs.lemmas.List.FromFn.{map-range_with_len_more}
use Rattle.dtx_ops.specs.declared.fields.Entry.{Entry}
use Rattle.dtx_ops.specs.Fields.{entry_in, entries_in}
use Rattle.dtx_ops.proofs.Writes.{to_end}
use Rattle.dtx_ops.proofs.reading.entries.Goals as goal

pub loop-i-preserved : goal.loop-i-preserved
unfolding entries_in
loop-i-preserved c =
    let bytes = c.args.bytes.now in
    let i = c.loop-i.i in
    let next = c.entry.ensures ∙ ap entry_in (to_end (4 * i) bytes) in
    record {
      count = omega (
        arith,
        c.push.ensures.len,
        ap (λ (es : List Entry). length es) c.push.ensures.items,
        length-append c.loop-i.found.items (c.entry.result ∷ []),
        c.loop-i.invariant.count,
      );
      read =
          c.push.ensures.items
          ∙ ap₂ (λ (es : List Entry) (e : Entry). es ++ e ∷ []) c.loop-i.invariant.read next
          ∙ sym (map-range_with_len_more (λ j. entry_in (drop (4 * j) bytes)) 0 i i (omega arith));
    }
