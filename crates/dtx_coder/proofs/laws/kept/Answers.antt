use Rattle.dtx_coder.proofs.KeptLemmas.{states_kept, last_kept, branches_kept}
use Rattle.dtx_coder.proofs.laws.kept.Goals as goal

pub returns-clause-states : goal.returns-clause-states
returns-clause-states c = states_kept

pub returns-clause-last : goal.returns-clause-last
returns-clause-last c = last_kept

pub returns-clause-branches : goal.returns-clause-branches
returns-clause-branches c = branches_kept
