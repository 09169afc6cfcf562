use Rattle.dtx_trellis.proofs.JoinsLemmas.{higher_append, lower_append, states_append, levels_append}
use Rattle.dtx_trellis.proofs.laws.group_after_group.Goals as goal

pub returns-clause-higher : goal.returns-clause-higher
returns-clause-higher c = higher_append

pub returns-clause-lower : goal.returns-clause-lower
returns-clause-lower c = lower_append

pub returns-clause-states : goal.returns-clause-states
returns-clause-states c = states_append

pub returns-clause-levels : goal.returns-clause-levels
returns-clause-levels c = levels_append
