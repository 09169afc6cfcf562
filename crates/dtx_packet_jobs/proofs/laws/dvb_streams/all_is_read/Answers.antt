use Rattle.dtx_packet_jobs.proofs.DvbBack.{blocks_all_read, too_many}
use Rattle.dtx_packet_jobs.proofs.laws.dvb_streams.all_is_read.Goals as goal

pub returns : goal.returns
returns c = record { whole = blocks_all_read; too_long = too_many }
