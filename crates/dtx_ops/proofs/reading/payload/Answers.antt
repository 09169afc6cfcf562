use Rattle.std.proofs.Common.{◌∙◌, drop, arith}
use Rattle.std.proofs.lemmas.List.{take_all, length-drop}
use Rattle.dtx_ops.proofs.reading.payload.Goals as goal

pub returns-clause-payload : goal.returns-clause-payload
returns-clause-payload c = c.copy_from_slice.ensures.after
    ∙ take_all 184 (drop 4 c.args.packet.now.0) (omega (arith, length-drop 4 c.args.packet.now.0, c.told-packet))
