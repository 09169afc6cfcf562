use Rattle.dtx_schedule.proofs.Named.{AreFirstNames}
use Rattle.dtx_schedule.proofs.playout.names_of_all.Given as goal

abbrev pub invariant-loop-transmitter : goal.invariant-loop-transmitter
invariant-loop-transmitter l = AreFirstNames l.transmitters l.transmitter-index l.names.items
