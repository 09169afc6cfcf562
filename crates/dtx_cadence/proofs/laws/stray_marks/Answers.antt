use Rattle.dtx_cadence.proofs.AnchoredLemmas.{stray_marks}
use Rattle.dtx_cadence.proofs.laws.stray_marks.Goals as goal

pub returns : goal.returns
returns c = stray_marks
