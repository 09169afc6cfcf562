use Rattle.dtx_exciter.proofs.LinesLemmas.{lines_more}
use Rattle.dtx_exciter.proofs.laws.lines_go_on.Goals as goal

pub returns : goal.returns
returns c = lines_more
