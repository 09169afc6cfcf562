use Rattle.std.proofs.Common.{arith}
use Rattle.dtx_packets.proofs.Reading.{are_next}
use Rattle.dtx_packets.proofs.reader.PacketReader.next_through.Goals as goal

pub returns-in-Ok-clause-told : goal.returns-in-Ok-clause-told
returns-in-Ok-clause-told g c =
    are_next (g.S.Shelf.files c.args.shelf.now) c.args.name.now c.args.self.now c.advance.new.self c.in-Ok.count
    _ c.advance.new.bytes c.cut.new.into
    (omega (arith, c.requires.room, c.advance.auto.bytes, c.cut.auto.into))
    (omega arith) c.in-Ok.ensures.told c.cut.ensures.packets
