use Rattle.std.proofs.Common.{◌≡◌, ◌<◌, ◌^◌, take}
use Rattle.std.specs.Prelude.{All, find}
use Rattle.std.specs.Option.{option_map}
use Rattle.dtx_schedule.specs.TransmitterFiles.{transmitter_names}
use Rattle.dtx_top.specs.NetNames.{is_given}
use Rattle.dtx_top.proofs.network_names.given_again.Given as goal

abbrev pub invariant-loop-transmitter : goal.invariant-loop-transmitter
invariant-loop-transmitter l = record {
  name : option_map (λ name. name.bytes) l.again
      ≡ find (is_given l.plan l.stream) (transmitter_names (take l.transmitter-index l.transmitters));
  small : All (λ t. t.address < 2 ^ 16) (take l.transmitter-index l.transmitters);
}
