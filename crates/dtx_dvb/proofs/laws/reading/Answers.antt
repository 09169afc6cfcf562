use Rattle.std.proofs.Common.{length}
use Rattle.dtx_dvb.proofs.ReadingLemmas.{length-read, get_or-read, complete_where, read_stays, read_short, read_next}
use Rattle.dtx_dvb.proofs.ReadingLemmas.{read_loose}
use Rattle.dtx_dvb.proofs.laws.reading.Goals as goal

pub returns-clause-count : goal.returns-clause-count
returns-clause-count c = length-read

pub returns-clause-at : goal.returns-clause-at
returns-clause-at c = get_or-read

pub returns-clause-there : goal.returns-clause-there
returns-clause-there c = λ bytes k. complete_where (length bytes) k

pub returns-clause-stays : goal.returns-clause-stays
returns-clause-stays c = λ bytes more k l. read_stays bytes more k ((complete_where (length bytes) k).0 l)

pub returns-clause-waits : goal.returns-clause-waits
returns-clause-waits c = read_short

pub returns-clause-brings : goal.returns-clause-brings
returns-clause-brings c = read_next

pub returns-clause-loose : goal.returns-clause-loose
returns-clause-loose c = read_loose
