use Rattle.std.proofs.Common.{pos, ap, ◌∙◌}
use Rattle.std.specs.Option.{option_map}
use Rattle.dtx_plan.specs.declared.transmitter.Transmitter.{Transmitter}
use Rattle.dtx_top.specs.NetNames.{is_given}
use Rattle.dtx_top.proofs.FileNames.{found_next, small_next}
use Rattle.dtx_top.proofs.network_names.given_again.Goals as goal

pub loop-transmitter-preserved : goal.loop-transmitter-preserved
loop-transmitter-preserved c =
    let ts = c.args.transmitters.now in
    let n = c.loop-transmitter.transmitter-index in
    let none : Transmitter = record { address = 0; offset = pos 0; delay = 0 } in
    record {
      name = ap (option_map (λ name. name.bytes)) c.or-again.ensures
          ∙ found_next (λ name. name.bytes) (is_given c.args.plan.now c.args.stream.now) ts n none
          c.loop-transmitter.again c.own_again.result c.loop-transmitter-test.true c.loop-transmitter.invariant.name
          c.own_again.ensures.name;
      small = small_next ts n none c.loop-transmitter-test.true c.loop-transmitter.invariant.small
          c.own_again.ensures.small;
    }
