use Rattle.std.proofs.Common.{rules, ◌∙◌}
use Rattle.dtx_dvb.proofs.Blocks.{blocks_coded}
use Rattle.dtx_dvb.proofs.sending.encode_four.Goals as goal

pub returns : goal.returns
returns c =
    c.encode_four.ensures
    ∙ blocks_coded c.args.place c.args.outer.now.white c.args.packets.now c.requires.white c.told-packets
    (λ p l. search rules)
