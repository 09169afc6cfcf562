use Rattle.dtx_network.proofs.Meets.{is_met, met_first, met_in_any_state, met_in_turn, met_in_turn_in_any_state, may_be}
use Rattle.dtx_network.proofs.laws.joined_is_met.Goals as goal

pub returns-clause-met : goal.returns-clause-met
returns-clause-met c = is_met

pub returns-clause-met_first : goal.returns-clause-met_first
returns-clause-met_first c = met_first

pub returns-clause-met_in_any_state : goal.returns-clause-met_in_any_state
returns-clause-met_in_any_state c = met_in_any_state

pub returns-clause-in_turn : goal.returns-clause-in_turn
returns-clause-in_turn c = met_in_turn

pub returns-clause-in_turn_in_any_state : goal.returns-clause-in_turn_in_any_state
returns-clause-in_turn_in_any_state c = met_in_turn_in_any_state

pub returns-clause-may_be : goal.returns-clause-may_be
returns-clause-may_be c = may_be
