use Rattle.std.proofs.Common.{◌≡◌, ◌∷◌, [], refl, arith}
use Rattle.dtx_packets.specs.Packets.{packet_at, packets_from, packets_of, whole_packets}
use Rattle.dtx_plan.specs.declared.event.Event.TheVariants.{Send, Flip, Lie, Restart}
use Rattle.dtx_net.specs.Steps.{packet_step, restart_step}
use Rattle.dtx_schedule.specs.Changes.{changed_packet}
use Rattle.dtx_schedule.specs.PlayedSoFar.{packet_steps}
use Rattle.dtx_schedule.proofs.EventSteps.{event_done, flipped, lied, made, one_within, part_within, restarted, sent}
use Rattle.dtx_schedule.proofs.event.play_at.Goals as goal

pub returns-in-Send-clause-done : goal.returns-in-Send-clause-done
returns-in-Send-clause-done g c = λ ts held before feed there place past is.
    let who = c.args.who in
    let to = c.in-Send.to in
    let from = c.in-Send.from in
    let count = c.in-Send.count in
    let event : c.args.event.now ≡ Send to from count = cc in
    let within = part_within (whole_packets feed) to from count c.args.event.now event past in
    event_done ts before (packet_steps who (packets_from feed from count)) held c.send.result c.send.new.playout
    (g.S.Shelf.files c.send.new.shelf) who (packets_of feed) c.args.event.now (Send to from count) event place
    (λ its. sent ts who to from count feed its within) (c.send.ensures.done ts held before feed there within is)

pub returns-in-Foreign-clause-done : goal.returns-in-Foreign-clause-done
returns-in-Foreign-clause-done g c = grind (arith, event_done, made)

pub returns-in-Flip-clause-done : goal.returns-in-Flip-clause-done
returns-in-Flip-clause-done g c = λ ts held before feed there place past is.
    let who = c.args.who in
    let to = c.in-Flip.to in
    let from = c.in-Flip.from in
    let at = c.in-Flip.at in
    let with = c.in-Flip.with in
    let event : c.args.event.now ≡ Flip to from at with = cc in
    let within = one_within (whole_packets feed) from c.args.event.now (Flip to from at with) event refl past in
    let packet = packet_at feed from in
    event_done ts before (packet_step who (changed_packet c.args.event.now packet) ∷ []) held c.give_changed.result
    c.give_changed.new.playout (g.S.Shelf.files c.give_changed.new.shelf) who (packets_of feed) c.args.event.now
    (Flip to from at with) event place (λ its. grind (arith, flipped))
    (c.give_changed.ensures.done ts held before feed there within is)

pub returns-in-Lie-clause-done : goal.returns-in-Lie-clause-done
returns-in-Lie-clause-done g c = λ ts held before feed there place past is.
    let who = c.args.who in
    let to = c.in-Lie.to in
    let from = c.in-Lie.from in
    let states = c.in-Lie.states in
    let event : c.args.event.now ≡ Lie to from states = cc in
    let within = one_within (whole_packets feed) from c.args.event.now (Lie to from states) event refl past in
    let packet = packet_at feed from in
    event_done ts before (packet_step who (changed_packet c.args.event.now packet) ∷ []) held
    c.give_changed-in-Lie.result c.give_changed-in-Lie.new.playout (g.S.Shelf.files c.give_changed-in-Lie.new.shelf) who
    (packets_of feed) c.args.event.now (Lie to from states) event place (λ its. grind (arith, lied))
    (c.give_changed-in-Lie.ensures.done ts held before feed there within is)

pub returns-in-Restart-clause-done : goal.returns-in-Restart-clause-done
returns-in-Restart-clause-done g c = λ ts held before feed there place past is.
    let who = c.args.who in
    let to = c.in-Restart.to in
    let event : c.args.event.now ≡ Restart to = cc in
    event_done ts before (restart_step who ∷ []) held c.restart.result c.restart.new.self
    (g.S.Shelf.files c.restart.new.shelf) who (packets_of feed) c.args.event.now (Restart to) event place
    (λ its. restarted ts who to (packets_of feed) its) (c.restart.ensures.done ts held before is)
