use Rattle.dtx_dvb.proofs.StreamLemmas.{length-dvb, get_or-dvb, dvb_front, bytes_more, sent_more}
use Rattle.dtx_dvb.proofs.laws.sending.Goals as goal

pub returns-clause-long : goal.returns-clause-long
returns-clause-long c = length-dvb

pub returns-clause-at : goal.returns-clause-at
returns-clause-at c = get_or-dvb

pub returns-clause-front : goal.returns-clause-front
returns-clause-front c = dvb_front

pub returns-clause-bytes : goal.returns-clause-bytes
returns-clause-bytes c = bytes_more

pub returns-clause-branches : goal.returns-clause-branches
returns-clause-branches c = sent_more
