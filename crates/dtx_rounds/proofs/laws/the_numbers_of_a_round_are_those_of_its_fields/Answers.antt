use Rattle.dtx_rounds.proofs.RoundNumbers.{costs_together, moves_together, words_together}
use Rattle.dtx_rounds.proofs.laws.the_numbers_of_a_round_are_those_of_its_fields.Goals as goal

pub returns-clause-cost : goal.returns-clause-cost
returns-clause-cost c = costs_together

pub returns-clause-moved : goal.returns-clause-moved
returns-clause-moved c = moves_together

pub returns-clause-known : goal.returns-clause-known
returns-clause-known c = words_together
