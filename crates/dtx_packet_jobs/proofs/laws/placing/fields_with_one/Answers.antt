use Rattle.dtx_packet_jobs.proofs.PlacedPackets.{any_same}
use Rattle.dtx_packet_jobs.proofs.laws.placing.fields_with_one.Goals as goal

pub returns : goal.returns
returns c = any_same
