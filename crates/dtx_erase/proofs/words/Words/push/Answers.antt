use Rattle.std.proofs.Common.{◌*◌, [], ◌∷◌, ◌++◌, ap, ◌∙◌}
use Rattle.dtx_receiver.specs.declared.batch.Received.{Received}
use Rattle.dtx_erase.proofs.Mendings.{received_is}
use Rattle.dtx_erase.proofs.words.Words.push.Goals as goal

pub returns-clause-packets : goal.returns-clause-packets
returns-clause-packets c gathered marks l m h = c.push.ensures.items
    ∙ ap (λ (r : Received). c.args.batch.now.packets.items ++ r ∷ [])
    (received_is (187 * c.args.place) marks gathered c.args.word.now c.head-head.result c.args.answer
    c.received.result l m c.head-head.ensures h c.received.ensures)
