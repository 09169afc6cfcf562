use Rattle.std.proofs.Common.{refl}
use Rattle.dtx_laws.specs.Interleaving.{interleaved}
use Rattle.dtx_outer.proofs.WordsLemmas.{word_back, word_behind}
use Rattle.dtx_outer.proofs.laws.words.back.Goals as goal

pub returns-clause-zeros : goal.returns-clause-zeros
returns-clause-zeros c = λ n b m x k p h. word_back n b m x (interleaved b m x) k p (λ q l. refl) h

pub returns-clause-behind : goal.returns-clause-behind
returns-clause-behind c = word_behind
