use Rattle.dtx_laws.proofs.InterleavingLemmas.{leaving_calls_is, after_calls_is}
use Rattle.dtx_laws.proofs.laws.interleaving.any_cut.Goals as goal

pub returns-clause-bytes : goal.returns-clause-bytes
returns-clause-bytes c = leaving_calls_is

pub returns-clause-branches : goal.returns-clause-branches
returns-clause-branches c = after_calls_is
