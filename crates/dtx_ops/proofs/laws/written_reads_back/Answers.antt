use Rattle.dtx_ops.proofs.ReadingsLemmas.{pid_of-spelling, changed_reads}
use Rattle.dtx_ops.proofs.laws.written_reads_back.Goals as goal

pub returns-clause-pid : goal.returns-clause-pid
returns-clause-pid c = pid_of-spelling

pub returns-clause-fields : goal.returns-clause-fields
returns-clause-fields c = changed_reads
