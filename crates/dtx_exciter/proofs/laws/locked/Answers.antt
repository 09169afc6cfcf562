use Rattle.dtx_exciter.proofs.LockedLemmas.{locked_nothing, locked_soon, has_lock}
use Rattle.dtx_exciter.proofs.laws.locked.Goals as goal

pub returns-clause-anew : goal.returns-clause-anew
returns-clause-anew c = locked_nothing

pub returns-clause-soon : goal.returns-clause-soon
returns-clause-soon c = locked_soon

pub returns-clause-lock : goal.returns-clause-lock
returns-clause-lock c = has_lock
