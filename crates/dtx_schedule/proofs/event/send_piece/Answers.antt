use Rattle.std.proofs.Common.{◌≡◌, ◌+◌, ◌-◌, ◌<◌, ◌++◌, ap, subst, ◌∙◌, arith}
use Rattle.std.specs.Prelude.{Ok, Err}
use Rattle.dtx_packets.specs.Packets.{packets_from, whole_packets}
use Rattle.dtx_schedule.specs.PlayedSoFar.{IsPieceOf, IsPlayedSoFar, packet_steps}
use Rattle.dtx_schedule.proofs.EventSteps.{piece_on}
use Rattle.dtx_schedule.proofs.FeedKept.{feed_read, kept_on, unread}
use Rattle.dtx_schedule.proofs.SoFar.{fault_more}
use Rattle.dtx_schedule.proofs.event.send_piece.Goals as goal

pub returns-in-Err-clause-done : goal.returns-in-Err-clause-done
returns-in-Err-clause-done g c = λ ts held before feed there within is.
    let part = c.args.part.now in
    let was = g.S.Shelf.files c.args.shelf.now in
    let mid = g.S.Shelf.files c.read_piece.new.shelf in
    let fault = feed_read (λ feed. part.from < whole_packets feed
    → IsPieceOf feed part.from (Err c.in-Err.status) c.read_piece.new.packets) ts before held
    c.args.playout.now was feed there is c.in-Err.ensures.told within in
    unread ts before (packet_steps c.args.who (packets_from feed part.from part.count)) held c.args.playout.now was mid
    c.in-Err.status c.read_piece.ensures.kept is fault

pub returns-in-Err-give_all-clause-done : goal.returns-in-Err-give_all-clause-done
returns-in-Err-give_all-clause-done g c = λ ts held before feed there within is.
    let part = c.args.part.now in
    let who = c.args.who in
    let was = g.S.Shelf.files c.args.shelf.now in
    let mid = g.S.Shelf.files c.read_piece.new.shelf in
    let now = g.S.Shelf.files c.give_all.new.shelf in
    let count = c.in-Ok.count in
    let status = c.in-Err-give_all.status in
    let packets = feed_read (λ feed. part.from < whole_packets feed
    → IsPieceOf feed part.from (Ok count) c.read_piece.new.packets) ts before held
    c.args.playout.now was feed there is c.in-Ok.ensures.told within in
    let all : count + (part.count - count) ≡ part.count = omega (arith, c.in-Ok.ensures.count.within) in
    fault_more ts (before ++ packet_steps who (packets_from feed part.from count))
    (packet_steps who (packets_from feed (part.from + count) (part.count - count)))
    (before ++ packet_steps who (packets_from feed part.from part.count)) held status now
    (piece_on before who feed part.from count (part.count - count)
    ∙ ap (λ n. before ++ packet_steps who (packets_from feed part.from n)) all) (grind (arith, kept_on))

pub returns-in-Ok-give_all-clause-done : goal.returns-in-Ok-give_all-clause-done
returns-in-Ok-give_all-clause-done g c = λ ts held before feed there within is.
    let from = c.args.part.now.from in
    let was = g.S.Shelf.files c.args.shelf.now in
    let mid = g.S.Shelf.files c.read_piece.new.shelf in
    let count = c.in-Ok.count in
    let packets = feed_read (λ feed. from < whole_packets feed
    → IsPieceOf feed from (Ok count) c.read_piece.new.packets) ts before held
    c.args.playout.now was feed there is c.in-Ok.ensures.told within in
    subst (λ ps. IsPlayedSoFar ts (before ++ packet_steps c.args.who ps) held c.give_all.new.playout
    (g.S.Shelf.files c.give_all.new.shelf)) packets (grind (arith, kept_on))
