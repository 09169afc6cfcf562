use Rattle.dtx_exciter.proofs.LockstepIsLemmas.{lockstep_is, lockstep_on}
use Rattle.dtx_exciter.proofs.laws.lockstep.Goals as goal

pub returns-clause-exact : goal.returns-clause-exact
returns-clause-exact c = lockstep_is

pub returns-clause-behind : goal.returns-clause-behind
returns-clause-behind c = lockstep_on
