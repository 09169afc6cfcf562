use Rattle.dtx_cadence.proofs.AnchoredLemmas.{two_missing}
use Rattle.dtx_cadence.proofs.laws.two_missing_marks.Goals as goal

pub returns : goal.returns
returns c = two_missing
