use Rattle.dtx_laws.proofs.GatheringLemmas.{gathered_back, gathered_zeros}
use Rattle.dtx_laws.proofs.laws.gathering.back.Goals as goal

pub returns-clause-late : goal.returns-clause-late
returns-clause-late c = gathered_back

pub returns-clause-zeros : goal.returns-clause-zeros
returns-clause-zeros c = gathered_zeros
