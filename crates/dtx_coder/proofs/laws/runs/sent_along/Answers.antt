use Rattle.dtx_coder.proofs.AlongLemmas.{sent_group, sent_preset, states_along, last_along}
use Rattle.dtx_coder.proofs.laws.runs.sent_along.Goals as goal

pub returns-clause-group : goal.returns-clause-group
returns-clause-group c = sent_group

pub returns-clause-preset : goal.returns-clause-preset
returns-clause-preset c = sent_preset

pub returns-clause-states : goal.returns-clause-states
returns-clause-states c = states_along

pub returns-clause-last : goal.returns-clause-last
returns-clause-last c = last_along
