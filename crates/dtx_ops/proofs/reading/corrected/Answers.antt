use Rattle.std.proofs.Common.{◌∙◌, Some, ap, sym}
use Rattle.dtx_ops.proofs.RefusingLemmas.{corrected_by, none_corrected}
use Rattle.dtx_ops.proofs.reading.corrected.Goals as goal

pub returns-in-Ok : goal.returns-in-Ok
returns-in-Ok g c = ap (λ bytes. Some bytes) c.data_in.ensures
    ∙ sym (corrected_by c.args.packet.now.0 c.payload-word.result c.correct.new.word c.payload-word.ensures.payload
    c.payload-word.ensures.long c.in-Ok.ensures.answer.correction)

pub returns-in-Err : goal.returns-in-Err
returns-in-Err g c =
    sym (none_corrected c.args.packet.now.0 c.payload-word.result c.payload-word.ensures.payload
    c.in-Err.ensures.answer.none)
