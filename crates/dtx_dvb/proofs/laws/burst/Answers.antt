use Rattle.dtx_dvb.proofs.BurstLemmas.{burst_slight}
use Rattle.dtx_dvb.proofs.laws.burst.Goals as goal

pub returns : goal.returns
returns c = burst_slight
