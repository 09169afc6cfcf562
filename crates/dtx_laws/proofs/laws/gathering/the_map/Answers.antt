use Rattle.dtx_laws.proofs.GatheringLemmas.{length-gathered, get_or-gathered, gathered-append}
use Rattle.dtx_laws.proofs.laws.gathering.the_map.Goals as goal

pub returns-clause-long : goal.returns-clause-long
returns-clause-long c = length-gathered

pub returns-clause-at : goal.returns-clause-at
returns-clause-at c = get_or-gathered

pub returns-clause-longer : goal.returns-clause-longer
returns-clause-longer c = gathered-append
