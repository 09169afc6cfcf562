use Rattle.dtx_ops.proofs.ReadingsLemmas.{read_as, reads, refused, refusal_read}
use Rattle.dtx_ops.proofs.laws.readings.Goals as goal

pub returns-clause-reads_as : goal.returns-clause-reads_as
returns-clause-reads_as c = read_as

pub returns-clause-reads : goal.returns-clause-reads
returns-clause-reads c = reads

pub returns-clause-refused : goal.returns-clause-refused
returns-clause-refused c = refused

pub returns-clause-refuses : goal.returns-clause-refuses
returns-clause-refuses c = refusal_read
