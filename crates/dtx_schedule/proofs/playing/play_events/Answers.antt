use Rattle.std.proofs.Common.{◌≡◌, ◌+◌, ◌++◌, List, length, take, drop, refl, ap, subst, ◌∙◌, arith}
use Rattle.std.proofs.Math.Seq.{take-length}
use Rattle.std.proofs.lemmas.Grind.{common_steps}
use Rattle.dtx_packets.specs.Packets.{packets_of, whole_packets}
use Rattle.dtx_net.specs.Steps.{Step, schedule, steps_of}
use Rattle.dtx_schedule.specs.PlayedSoFar.{IsPlayedSoFar}
use Rattle.dtx_schedule.proofs.ScheduleOn.{event_at, nothing_yet, schedule_on, schedule_rest, stays_within}
use Rattle.dtx_schedule.proofs.SoFar.{fault_more}
use Rattle.dtx_schedule.proofs.PlayoutOn.{none_given}
use Rattle.dtx_schedule.proofs.playing.play_events.Goals as goal

pub loop-i-init : goal.loop-i-init
loop-i-init g c = grind (arith, nothing_yet, none_given)

pub play_event-requires-clause-event : goal.play_event-requires-clause-event
play_event-requires-clause-event g c = grind (arith, event_at)

pub returns-in-Err-clause-done : goal.returns-in-Err-clause-done
returns-in-Err-clause-done g c = λ ts held feed there inside is.
    let events = c.args.events.now in
    let i = c.loop-i.i in
    let stream = packets_of feed in
    let status = c.in-Err.status in
    let now = g.S.Shelf.files c.play_event.new.shelf in
    let rest : List Step = schedule ts stream (drop (i + 1) events) in
    fault_more ts (schedule ts stream (take i events) ++ steps_of ts stream c.get.result) rest
    (schedule ts stream events) held status now (grind (arith, schedule_on, schedule_rest))
    (c.in-Err.ensures.done ts held (schedule ts stream (take i events)) feed there
    (stays_within events (whole_packets feed) i c.get.result inside c.get.ensures)
    (c.loop-i.invariant.done ts held feed there inside is))

pub loop-i-preserved : goal.loop-i-preserved
loop-i-preserved g c =
    let old = c.loop-i.invariant in
    record {
      room = omega (arith, old.room, c.play_event.auto.packets);
      done = λ ts held feed there inside is.
          let events = c.args.events.now in
          let i = c.loop-i.i in
          subst (λ steps. IsPlayedSoFar ts steps held c.play_event.new.playout (g.S.Shelf.files c.play_event.new.shelf))
          (schedule_on ts (packets_of feed) events i c.get.result c.get.ensures)
          (c.in-Ok.ensures.done ts held (schedule ts (packets_of feed) (take i events)) feed there
          (stays_within events (whole_packets feed) i c.get.result inside c.get.ensures)
          (old.done ts held feed there inside is));
      some = c.in-Ok.ensures.some refl;
      count = omega (arith, c.in-Ok.ensures.steps refl, old.count);
      gone = grind (arith, common_steps);
    }

pub returns-clause-done : goal.returns-clause-done
returns-clause-done g c = λ ts held feed there inside is.
    let past = c.loop-i-test.false in
    let all : c.loop-i.i ≡ length c.args.events.now = omega (arith, past, c.loop-i.auto.i-end, c.len-i-end.ensures) in
    subst (λ es. IsPlayedSoFar ts (schedule ts (packets_of feed) es) held c.loop-i.playout
    (g.S.Shelf.files c.loop-i.shelf)) (ap (λ n. take n c.args.events.now) all ∙ take-length c.args.events.now)
    (c.loop-i.invariant.done ts held feed there inside is)
