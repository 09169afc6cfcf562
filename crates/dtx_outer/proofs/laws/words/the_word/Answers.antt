use Rattle.dtx_outer.proofs.WordsLemmas.{length-word, get_or-word}
use Rattle.dtx_outer.proofs.laws.words.the_word.Goals as goal

pub returns-clause-long : goal.returns-clause-long
returns-clause-long c = length-word

pub returns-clause-at : goal.returns-clause-at
returns-clause-at c = get_or-word
