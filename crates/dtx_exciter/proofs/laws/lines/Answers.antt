use Rattle.dtx_exciter.proofs.LinesLemmas.{lines_is, lines_on}
use Rattle.dtx_exciter.proofs.laws.lines.Goals as goal

pub returns-clause-exact : goal.returns-clause-exact
returns-clause-exact c = lines_is

pub returns-clause-behind : goal.returns-clause-behind
returns-clause-behind c = lines_on
