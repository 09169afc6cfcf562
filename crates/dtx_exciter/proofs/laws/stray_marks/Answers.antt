use Rattle.dtx_exciter.proofs.SentAlikeLemmas.{stray}
use Rattle.dtx_exciter.proofs.laws.stray_marks.Goals as goal

pub returns : goal.returns
returns c = stray
