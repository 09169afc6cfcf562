use Rattle.dtx_exciter.proofs.SentAlikeLemmas.{one_missing}
use Rattle.dtx_exciter.proofs.laws.one_missing_mark.Goals as goal

pub returns : goal.returns
returns c = one_missing
