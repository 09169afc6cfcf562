use Rattle.dtx_rounds.proofs.SoFarLemmas.{all_is_refined, refined_grows}
use Rattle.dtx_rounds.proofs.laws.more_is_refined_of_more.Goals as goal

pub returns-clause-all : goal.returns-clause-all
returns-clause-all c = all_is_refined

pub returns-clause-more : goal.returns-clause-more
returns-clause-more c = refined_grows
