use Rattle.dtx_packet_jobs.proofs.PlacedPackets.{bytes_lower, bytes_stay, changed_pid, length-placed, lengths_stay}
use Rattle.dtx_packet_jobs.proofs.PlacedPackets.{other_stays}
use Rattle.dtx_packet_jobs.proofs.laws.placing.what_stays.Goals as goal

pub returns : goal.returns
returns c = record {
  count = length-placed;
  lengths = lengths_stay;
  others = other_stays;
  bytes = bytes_stay;
  lower = bytes_lower;
  changed = changed_pid;
}
