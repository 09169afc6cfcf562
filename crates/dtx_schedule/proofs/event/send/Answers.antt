use Rattle.std.proofs.Common.{◌≡◌, ◌+◌, ◌-◌, ◌++◌, List, refl, subst, arith}
use Rattle.std.proofs.lemmas.Grind.{common_steps}
use Rattle.dtx_meaning.specs.Status.{IsFault}
use Rattle.dtx_packets.specs.Packets.{packets_from}
use Rattle.dtx_net.specs.Steps.{Step}
use Rattle.dtx_schedule.specs.PlayedSoFar.{IsPlayedSoFar, IsUnderWay, packet_steps}
use Rattle.dtx_schedule.proofs.EventSteps.{piece_on}
use Rattle.dtx_schedule.proofs.event.send.Goals as goal

pub returns-in-Err-clause-done : goal.returns-in-Err-clause-done
returns-in-Err-clause-done g c = λ ts held before feed there within is.
    let part = c.args.part.now in
    let given = c.loop-given.given in
    let so_far : List Step = before ++ packet_steps c.args.who (packets_from feed part.from given) in
    let less = c.loop-given-test.true in
    let now = g.S.Shelf.files c.send_piece.new.shelf in
    let status = c.in-Err.status in
    let all : given + (part.count - given) ≡ part.count = omega (arith, less) in
    subst (λ (steps : List Step). IsFault status × IsUnderWay ts steps held now) (grind (arith, piece_on))
    (c.in-Err.ensures.done ts held so_far feed there (omega (arith, within, less))
    (c.loop-given.invariant.done ts held before feed there within is))

pub loop-given-preserved : goal.loop-given-preserved
loop-given-preserved g c =
    let old = c.loop-given.invariant in
    let given = c.loop-given.given in
    let counted = c.in-Ok.ensures.count in
    record {
      in_range = omega (arith, old.in_range, counted.1);
      room = omega (arith, old.room, c.send_piece.auto.packets);
      done = λ ts held before feed there within is.
          let part = c.args.part.now in
          let so_far : List Step = before ++ packet_steps c.args.who (packets_from feed part.from given) in
          let less = c.loop-given-test.true in
          subst (λ steps. IsPlayedSoFar ts steps held c.send_piece.new.playout (g.S.Shelf.files c.send_piece.new.shelf))
          (piece_on before c.args.who feed part.from given c.in-Ok.count)
          (c.in-Ok.ensures.done ts held so_far feed there (omega (arith, within, less))
          (old.done ts held before feed there within is));
      there = c.in-Ok.ensures.there refl;
      count = omega (arith, old.count, counted.2);
      gone = grind (arith, common_steps);
    }

pub returns-clause-done : goal.returns-clause-done
returns-clause-done g c = λ ts held before feed there within is.
    let part = c.args.part.now in
    let past = c.loop-given-test.false in
    subst (λ n. IsPlayedSoFar ts (before ++ packet_steps c.args.who (packets_from feed part.from n)) held
    c.loop-given.playout (g.S.Shelf.files c.loop-given.shelf)) (omega (arith, past, c.loop-given.invariant.in_range))
    (c.loop-given.invariant.done ts held before feed there within is)
