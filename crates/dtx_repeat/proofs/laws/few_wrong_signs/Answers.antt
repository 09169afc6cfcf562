use Rattle.dtx_repeat.proofs.MarksLemmas.{second_is}
use Rattle.dtx_repeat.proofs.laws.few_wrong_signs.Goals as goal

pub returns : goal.returns
returns c = second_is
