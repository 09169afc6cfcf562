use Rattle.dtx_packet_jobs.proofs.PlacedBytes.{made_placed}
use Rattle.dtx_packet_jobs.proofs.laws.placing.what_is_made.Goals as goal

pub returns : goal.returns
returns c = made_placed
