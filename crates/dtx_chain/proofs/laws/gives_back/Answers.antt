use Rattle.dtx_chain.proofs.WordsLemmas.{corrected_back}
use Rattle.dtx_chain.proofs.NumbersLemmas.{number_at}
use Rattle.dtx_chain.proofs.laws.gives_back.Goals as goal

pub returns-clause-packet : goal.returns-clause-packet
returns-clause-packet c = corrected_back

pub returns-clause-place : goal.returns-clause-place
returns-clause-place c = number_at
