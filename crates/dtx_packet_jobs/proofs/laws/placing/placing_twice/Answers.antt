use Rattle.dtx_packet_jobs.proofs.PlacedPackets.{placed_twice}
use Rattle.dtx_packet_jobs.proofs.laws.placing.placing_twice.Goals as goal

pub returns : goal.returns
returns c = placed_twice
