use Rattle.std.proofs.Common.{arith}
use Rattle.std.proofs.lemmas.Option.{slice_get-get_or}
use Rattle.dtx_schedule.proofs.Named.{all_named, one_named}
use Rattle.dtx_schedule.proofs.playout.names_of_all.Goals as goal

pub loop-transmitter-preserved : goal.loop-transmitter-preserved
loop-transmitter-preserved c = grind (arith, one_named, slice_get-get_or)

pub returns : goal.returns
returns c = all_named c.args.transmitters.now c.loop-transmitter.transmitter-index c.loop-transmitter.names.items
    (grind (arith, c.loop-transmitter-test.false)) c.loop-transmitter.invariant
