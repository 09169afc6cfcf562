use Rattle.dtx_exciter.proofs.LockstepIsLemmas.{length-before, sync_at_most}
use Rattle.dtx_exciter.proofs.laws.counts.Goals as goal

pub returns-clause-before : goal.returns-clause-before
returns-clause-before c = length-before

pub returns-clause-sync : goal.returns-clause-sync
returns-clause-sync c = sync_at_most
