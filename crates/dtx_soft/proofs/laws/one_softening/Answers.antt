use Rattle.dtx_soft.proofs.SoftenedLemmas.{softened_found, softened_is}
use Rattle.dtx_soft.proofs.laws.one_softening.Goals as goal

pub returns-clause-found : goal.returns-clause-found
returns-clause-found c = softened_found

pub returns-clause-one : goal.returns-clause-one
returns-clause-one c = softened_is
