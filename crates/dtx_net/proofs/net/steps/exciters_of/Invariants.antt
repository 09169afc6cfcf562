use Rattle.dtx_net.specs.Standing.{AreNew}
use Rattle.dtx_net.proofs.net.steps.exciters_of.Given as goal

abbrev pub invariant-loop-transmitter : goal.invariant-loop-transmitter
invariant-loop-transmitter l = AreNew l.transmitter-index l.transmitters l.exciters.items
