use Rattle.std.proofs.Common.{drop, arith, length-drop, take_all}
use Rattle.dtx_coder.proofs.outer_coding.data_of.Goals as goal

pub returns-clause-behind : goal.returns-clause-behind
returns-clause-behind c =
    take_all 187 (drop 1 c.args.packet.now) (omega (arith, length-drop 1 c.args.packet.now))
