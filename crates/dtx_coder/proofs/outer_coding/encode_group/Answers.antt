use Rattle.std.proofs.Common.{◌∙◌}
use Rattle.dtx_coder.proofs.Packets.{four_coded}
use Rattle.dtx_coder.proofs.outer_coding.encode_group.Goals as goal

pub returns : goal.returns
returns c =
    c.encode_four.ensures
    ∙ four_coded c.args.first c.args.outer.now.white c.args.packets.now _ _ _ _ c.requires.white c.told-packets
    c.data_of.ensures c.data_of-2.ensures c.data_of-3.ensures c.data_of-4.ensures
