use Rattle.dtx_erase.proofs.UnmarkedLemmas.{as_many, as_many_so_far}
use Rattle.dtx_erase.proofs.laws.as_many.Goals as goal

pub returns-clause-all : goal.returns-clause-all
returns-clause-all c = as_many

pub returns-clause-so_far : goal.returns-clause-so_far
returns-clause-so_far c = as_many_so_far
