use Rattle.dtx_dvb.proofs.BackLemmas.{undamaged, all_as_sent}
use Rattle.dtx_dvb.proofs.laws.undamaged.Goals as goal

pub returns-clause-slight : goal.returns-clause-slight
returns-clause-slight c = undamaged

pub returns-clause-read : goal.returns-clause-read
returns-clause-read c = all_as_sent
