use Rattle.std.proofs.Common.{◌<◌, ◌+◌, pos, List, subst, sym, arith, length, get_or}
use Rattle.std.proofs.lemmas.Option.{slice_get-get_or}
use Rattle.dtx_plan.specs.declared.transmitter.Transmitter.{Transmitter}
use Rattle.dtx_exciter.specs.declared.exciter.Exciter.{Exciter}
use Rattle.dtx_net.specs.Standing.{AreNew}
use Rattle.dtx_net.proofs.Stands.{new_more}
use Rattle.dtx_net.proofs.net.steps.exciters_of.Goals as goal

pub loop-transmitter-preserved : goal.loop-transmitter-preserved
loop-transmitter-preserved c =
    let none : Transmitter = record { address = 0; offset = pos 0; delay = 0 } in
    let ts = c.args.transmitters.now in
    let i = c.loop-transmitter.transmitter-index in
    let within : i < length ts = omega (arith, c.loop-transmitter-test.true) in
    subst (AreNew (i + 1) ts) (sym {A = List Exciter} c.in_ok-push.ensures.items)
    (new_more i ts c.loop-transmitter.exciters.items (get_or ts i none) c.in_ok-sharing.field-0
    c.loop-transmitter.invariant
    (slice_get-get_or ts i none within) c.in_ok-sharing.ensures)
