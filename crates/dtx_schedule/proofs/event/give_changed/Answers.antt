use Rattle.std.proofs.Common.{◌<◌, ◌∷◌, ◌++◌, [], List, ap, subst, ◌∙◌}
use Rattle.std.specs.Prelude.{Ok, Err}
use Rattle.dtx_packets.specs.Packets.{packet_at, whole_packets}
use Rattle.dtx_net.specs.Steps.{Step, packet_step}
use Rattle.dtx_schedule.specs.Changes.{changed_packet}
use Rattle.dtx_schedule.specs.PlayedSoFar.{IsDoneOf, IsPacketOf}
use Rattle.dtx_schedule.proofs.FeedKept.{feed_read, kept_on, unread}
use Rattle.dtx_schedule.proofs.event.give_changed.Goals as goal

pub returns-in-Ok-clause-done : goal.returns-in-Ok-clause-done
returns-in-Ok-clause-done g c = λ ts held before feed there within is.
    let who = c.args.who in
    let from = c.args.part.now.from in
    let was = g.S.Shelf.files c.args.shelf.now in
    let mid = g.S.Shelf.files c.read_one.new.shelf in
    let read = feed_read (λ feed. from < whole_packets feed → IsPacketOf feed from (Ok c.in-Ok.packet)) ts before held
    c.args.playout.now was feed there is c.in-Ok.ensures.told within in
    subst (λ p. IsDoneOf ts (before ++ packet_step who p ∷ []) held c.give.result c.give.new.self
    (g.S.Shelf.files c.give.new.shelf)) (c.changed_by-changed.ensures ∙ ap (changed_packet c.args.event.now) read)
    (c.give.ensures.done ts held before (kept_on ts before held c.args.playout.now was mid c.read_one.ensures.kept is))

pub returns-in-Err-clause-done : goal.returns-in-Err-clause-done
returns-in-Err-clause-done g c = λ ts held before feed there within is.
    let from = c.args.part.now.from in
    let was = g.S.Shelf.files c.args.shelf.now in
    let mid = g.S.Shelf.files c.read_one.new.shelf in
    let status = c.in-Err.status in
    let fault = feed_read (λ feed. from < whole_packets feed → IsPacketOf feed from (Err status)) ts before held
    c.args.playout.now was feed there is c.in-Err.ensures.told within in
    let own : List Step = packet_step c.args.who (changed_packet c.args.event.now (packet_at feed from)) ∷ [] in
    unread ts before own held c.args.playout.now was mid status c.read_one.ensures.kept is fault
