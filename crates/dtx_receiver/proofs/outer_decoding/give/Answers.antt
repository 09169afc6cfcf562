use Rattle.dtx_receiver.specs.Handed.{handed}
use Rattle.dtx_receiver.proofs.Giving.{gives, with_more}
use Rattle.dtx_receiver.proofs.outer_decoding.give.Goals as goal

pub returns-clause-packets : goal.returns-clause-packets
returns-clause-packets c = λ before given s f.
    with_more before _ given c.args.batch.now.packets.items c.hand.new.batch.packets.items
    (handed c.take-taken.result c.take-taken.new.out)
    (gives c.args.inner.now.white before c.args.block.now _ c.take-taken.new.out s.blocks c.take-taken.result
    c.requires.white s.given c.told-block (c.take-taken.ensures.taken before s))
    c.hand.ensures.packets f
