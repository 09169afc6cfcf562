use Rattle.dtx_exciter.proofs.HowMany.{part_below, spaced}
use Rattle.dtx_exciter.proofs.laws.groups_are_spaced.Goals as goal

pub returns-clause-spaced : goal.returns-clause-spaced
returns-clause-spaced c = spaced

pub returns-clause-part : goal.returns-clause-part
returns-clause-part c = part_below
