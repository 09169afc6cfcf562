use Rattle.dtx_network.proofs.Emitting.{first_is, no_other}
use Rattle.dtx_network.proofs.laws.lines_of_a_stretch.Goals as goal

pub returns-clause-first : goal.returns-clause-first
returns-clause-first c = first_is

pub returns-clause-no_other : goal.returns-clause-no_other
returns-clause-no_other c = no_other
