use Rattle.dtx_receiver.proofs.CompleteLemmas.{complete_told, complete_all, complete_only}
use Rattle.dtx_receiver.proofs.laws.complete.Goals as goal

pub returns-clause-told : goal.returns-clause-told
returns-clause-told c = complete_told

pub returns-clause-only : goal.returns-clause-only
returns-clause-only c = complete_only

pub returns-clause-all : goal.returns-clause-all
returns-clause-all c = complete_all
