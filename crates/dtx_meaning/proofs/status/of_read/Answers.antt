use Rattle.std.proofs.Common.{rules}
use Rattle.dtx_meaning.proofs.status.of_read.Goals as goal

pub returns-in-Absent-clause-status : goal.returns-in-Absent-clause-status
returns-in-Absent-clause-status c = search rules

pub returns-in-Absent-clause-input : goal.returns-in-Absent-clause-input
returns-in-Absent-clause-input c = search rules
