use Rattle.std.proofs.Common.{◌≡◌, ◌+◌, ◌∷◌, [], sym, ◌∙◌, ap, take, length, get_or, arith}
use Rattle.std.proofs.lemmas.Option.{get_or_from_slice_get}
use Rattle.dtx_make.specs.Hurt.{damaged_bytes}
use Rattle.dtx_make.proofs.EntriesLemmas.{entry_at_before, entry_at_behind}
use Rattle.dtx_make.proofs.LaidBytesLemmas.{laid_none, laid_same, laid_more}
use Rattle.dtx_make.proofs.laying.lay.Goals as goal

pub loop-i-init : goal.loop-i-init
loop-i-init c =
    let first = c.first_behind-i.ensures in
    record {
      within = first.within;
      bytes = laid_none (take c.first_behind-i.result c.args.damage.now) c.args.place c.args.bytes.now
          (λ k l m. entry_at_before c.args.damage.now c.first_behind-i.result c.args.place k first.within first.before
          l);
    }

pub loop-i-preserved : goal.loop-i-preserved
loop-i-preserved c =
    let entry = c.get-entry.result in
    let is : get_or c.args.damage.now c.loop-i.i entry ≡ entry =
    get_or_from_slice_get c.args.damage.now c.loop-i.i entry entry c.get-entry.ensures in
    record {
      within = omega arith;
      bytes =
          c.lay_entry.ensures
          ∙ ap (damaged_bytes (entry ∷ []) c.args.place) c.loop-i.invariant.bytes
          ∙ ap (λ e. damaged_bytes (e ∷ []) c.args.place (damaged_bytes
          (take c.loop-i.i c.args.damage.now) c.args.place c.args.bytes.now)) (sym is)
          ∙ laid_more c.args.damage.now entry c.loop-i.i c.args.place c.args.bytes.now c.requires.in_order
          (omega arith);
    }

pub returns-then-entry-end : goal.returns-then-entry-end
returns-then-entry-end c =
    c.loop-i.invariant.bytes
    ∙ sym (laid_same c.args.damage.now (take c.loop-i.i c.args.damage.now) c.args.place c.args.bytes.now
    (λ k l m. entry_at_behind c.args.damage.now c.get-entry.result c.loop-i.i
    (c.args.place + length c.args.bytes.now) k c.requires.in_order c.get-entry.ensures (omega arith) m))
