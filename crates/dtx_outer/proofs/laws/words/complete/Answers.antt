use Rattle.dtx_outer.proofs.WordsLemmas.{word_stays, complete_then, one_more_brings}
use Rattle.dtx_outer.proofs.laws.words.complete.Goals as goal

pub returns-clause-stays : goal.returns-clause-stays
returns-clause-stays c = word_stays

pub returns-clause-brings : goal.returns-clause-brings
returns-clause-brings c = one_more_brings

pub returns-clause-by_its_call : goal.returns-clause-by_its_call
returns-clause-by_its_call c = complete_then
