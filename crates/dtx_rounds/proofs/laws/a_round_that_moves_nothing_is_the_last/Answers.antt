use Rattle.dtx_rounds.proofs.RefinedLemmas.{refined_stays, rounds_stay}
use Rattle.dtx_rounds.proofs.RoundNumbers.{none_moved, still_capture, still_round}
use Rattle.dtx_rounds.proofs.laws.a_round_that_moves_nothing_is_the_last.Goals as goal

pub returns-clause-rounds : goal.returns-clause-rounds
returns-clause-rounds c = rounds_stay

pub returns-clause-capture : goal.returns-clause-capture
returns-clause-capture c = refined_stays

pub returns-clause-still : goal.returns-clause-still
returns-clause-still c = still_round

pub returns-clause-none : goal.returns-clause-none
returns-clause-none c = none_moved

pub returns-clause-still_capture : goal.returns-clause-still_capture
returns-clause-still_capture c = still_capture
