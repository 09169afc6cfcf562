use Rattle.std.proofs.Common.{◌≡◌, take}
use Rattle.dtx_plan.proofs.transmitters.Transmitters.from_slice.Given as goal

abbrev pub invariant-loop-transmitter : goal.invariant-loop-transmitter
invariant-loop-transmitter l = l.all ≡ take l.transmitter-index l.transmitters
