use Rattle.std.proofs.Common.{◌≡◌, length, ◌+◌, ◌++◌, List, map, take, drop, ap, subst, ◌∙◌, arith}
use Rattle.std.proofs.Math.Seq.{take-length}
use Rattle.dtx_net.specs.Steps.{Step}
use Rattle.dtx_schedule.specs.PlayedSoFar.{IsPlayedSoFar, packet_steps}
use Rattle.dtx_schedule.proofs.SoFar.{fault_more, packet_on, packets_rest}
use Rattle.dtx_schedule.proofs.giving.give_all.Goals as goal

pub returns-in-Err-clause-done : goal.returns-in-Err-clause-done
returns-in-Err-clause-done g c = λ ts held before is.
    let who = c.args.who in
    let packets = c.args.packets.now in
    let i = c.loop-i.i in
    let status = c.in-Err.status in
    let now = g.S.Shelf.files c.give.new.shelf in
    let so_far : List Step = before ++ packet_steps who (map (λ p. p.0) (take i packets)) in
    let rest : List Step = packet_steps who (map (λ p. p.0) (drop (i + 1) packets)) in
    fault_more ts _ rest (before ++ packet_steps who (map (λ p. p.0) packets)) held status now
    (ap (λ steps. steps ++ rest) (grind (arith, packet_on)) ∙ packets_rest before who packets (i + 1))
    (c.in-Err.ensures.done ts held so_far (c.loop-i.invariant.done ts held before is))

pub loop-i-preserved : goal.loop-i-preserved
loop-i-preserved g c = grind (arith, packet_on)

pub returns-clause-done : goal.returns-clause-done
returns-clause-done g c = λ ts held before is.
    let packets = c.args.packets.now in
    let all : c.loop-i.i ≡ length packets = omega (arith, c.loop-i-test.false, c.loop-i.auto.i-end) in
    subst (λ ps. IsPlayedSoFar ts (before ++ packet_steps c.args.who (map (λ p. p.0) ps)) held c.loop-i.playout
    (g.S.Shelf.files c.loop-i.shelf)) (grind (arith, take-length)) (c.loop-i.invariant.done ts held before is)
