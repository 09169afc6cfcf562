use Rattle.std.proofs.Common.{rules}
use Rattle.dtx_packets.proofs.reader.PacketReader.left.Goals as goal

pub returns : goal.returns
returns c = search rules
