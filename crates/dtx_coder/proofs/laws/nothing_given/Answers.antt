use Rattle.dtx_coder.proofs.NextLemmas.{a53_nothing, new_stands}
use Rattle.dtx_coder.proofs.laws.nothing_given.Goals as goal

pub returns-clause-stands : goal.returns-clause-stands
returns-clause-stands c = new_stands

pub returns-clause-segments : goal.returns-clause-segments
returns-clause-segments c = a53_nothing
