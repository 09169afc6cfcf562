use Rattle.dtx_packet_jobs.proofs.DvbBack.{comes_back, sent_comes_back}
use Rattle.dtx_packet_jobs.proofs.laws.dvb_streams.streams_come_back.Goals as goal

pub returns : goal.returns
returns c = record { damaged = comes_back; undamaged = sent_comes_back }
