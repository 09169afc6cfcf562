use Rattle.dtx_packet_jobs.proofs.DvbBack.{all_sent, refused_sent, too_many_sent}
use Rattle.dtx_packet_jobs.proofs.laws.dvb_streams.all_is_sent.Goals as goal

pub returns : goal.returns
returns c = record { whole = all_sent; refused = refused_sent; too_long = too_many_sent }
