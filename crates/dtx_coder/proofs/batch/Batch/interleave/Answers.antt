use Rattle.std.proofs.Common.{◌%◌, ap, sym, ◌∙◌}
use Rattle.dtx_sizes.specs.declared.fields.FieldPlace.{FieldPlace}
use Rattle.dtx_coder.proofs.BatchesLemmas.{batch_begun}
use Rattle.dtx_coder.proofs.batch.Batch.interleave.Goals as goal

pub returns : goal.returns
returns c = λ before long stands.
    batch_begun before c.args.packets.now c.interleave.new.bytes _ c.field_place-place.result.place c.args.coder.now
    c.interleave.new.self stands
    (ap (λ (p : FieldPlace). p.place) c.field_place-place.ensures ∙ ap (λ n. n % 312) (sym long)) c.interleave.ensures
