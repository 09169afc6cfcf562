use Rattle.dtx_cadence.proofs.AnchoredLemmas.{missing_mark}
use Rattle.dtx_cadence.proofs.laws.one_missing_mark.Goals as goal

pub returns : goal.returns
returns c = missing_mark
