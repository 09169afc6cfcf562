use Rattle.dtx_chain.proofs.WordsLemmas.{near_if_back}
use Rattle.dtx_chain.proofs.laws.what_comes_back_was_near.Goals as goal

pub returns : goal.returns
returns c = near_if_back
