use Rattle.dtx_outer.proofs.WordsLemmas.{waiting_covers, waiting_least, waiting_air}
use Rattle.dtx_outer.proofs.laws.words.waits.Goals as goal

pub returns-clause-covers : goal.returns-clause-covers
returns-clause-covers c = waiting_covers

pub returns-clause-least : goal.returns-clause-least
returns-clause-least c = waiting_least

pub returns-clause-air : goal.returns-clause-air
returns-clause-air c = waiting_air
