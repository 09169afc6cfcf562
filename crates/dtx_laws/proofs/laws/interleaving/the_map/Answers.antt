use Rattle.dtx_laws.proofs.InterleavingLemmas.{length-interleaved, get_or-interleaved, interleaved-append}
use Rattle.dtx_laws.proofs.laws.interleaving.the_map.Goals as goal

pub returns-clause-long : goal.returns-clause-long
returns-clause-long c = length-interleaved

pub returns-clause-at : goal.returns-clause-at
returns-clause-at c = get_or-interleaved

pub returns-clause-longer : goal.returns-clause-longer
returns-clause-longer c = interleaved-append
