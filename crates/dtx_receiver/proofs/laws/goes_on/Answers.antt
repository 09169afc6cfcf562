use Rattle.dtx_receiver.proofs.CountingLemmas.{nothing_given, given_more, all_more}
use Rattle.dtx_receiver.proofs.laws.goes_on.Goals as goal

pub returns-clause-none : goal.returns-clause-none
returns-clause-none c = nothing_given

pub returns-clause-segment : goal.returns-clause-segment
returns-clause-segment c = given_more

pub returns-clause-end : goal.returns-clause-end
returns-clause-end c = all_more
