use Rattle.std.proofs.Common.{◌≡◌, [], ◌∷◌, ◌+◌, ◌-◌, ◌++◌, List, map, arith}
use Rattle.std.specs.List.{range_with_len}
use Rattle.dtx_make.specs.Made.{made_packet}
use Rattle.dtx_net.specs.Steps.{Step, packet_step}
use Rattle.dtx_schedule.specs.PlayedSoFar.{packet_steps}
use Rattle.dtx_schedule.proofs.SoFar.{fault_more, numbered_on, numbered_rest}
use Rattle.dtx_schedule.proofs.giving.give_made.Goals as goal

pub returns-in-Err-clause-done : goal.returns-in-Err-clause-done
returns-in-Err-clause-done g c = λ ts held before is.
    let who = c.args.who in
    let part = c.args.part.now in
    let i = c.loop-i.i in
    let status = c.in-Err.status in
    let now = g.S.Shelf.files c.give.new.shelf in
    let so_far : List Step = before ++ packet_steps who (map (made_packet part.seed) (range_with_len part.from i)) in
    let more = part.count - (i + 1) in
    let rest : List Step = packet_steps who (map (made_packet part.seed) (range_with_len (part.from + (i + 1)) more)) in
    let all : List Step =
    before ++ packet_steps who (map (made_packet part.seed) (range_with_len part.from part.count)) in
    let whole : (i + 1) + more ≡ part.count = omega (arith, c.loop-i-test.true) in
    fault_more ts (so_far ++ packet_step who c.packet.result.0 ∷ []) rest all held status now
    (grind (arith, numbered_on, numbered_rest))
    (c.in-Err.ensures.done ts held so_far (c.loop-i.invariant.done ts held before is))

pub loop-i-preserved : goal.loop-i-preserved
loop-i-preserved g c = grind (arith, numbered_on)

pub returns-clause-done : goal.returns-clause-done
returns-clause-done g c = grind (arith, c.loop-i-test.false, c.loop-i.invariant.done)
