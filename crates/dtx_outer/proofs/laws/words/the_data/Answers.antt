use Rattle.dtx_outer.proofs.WordsLemmas.{good_data, bad_data}
use Rattle.dtx_outer.proofs.laws.words.the_data.Goals as goal

pub returns-clause-good : goal.returns-clause-good
returns-clause-good c = good_data

pub returns-clause-bad : goal.returns-clause-bad
returns-clause-bad c = bad_data
