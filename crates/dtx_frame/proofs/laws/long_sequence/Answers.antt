use Rattle.dtx_frame.proofs.RecurrencesLemmas.{length_511, front_511, rule_511}
use Rattle.dtx_frame.proofs.laws.long_sequence.Goals as goal

pub returns-clause-long : goal.returns-clause-long
returns-clause-long c = length_511

pub returns-clause-begins : goal.returns-clause-begins
returns-clause-begins c = front_511

pub returns-clause-goes_on : goal.returns-clause-goes_on
returns-clause-goes_on c = rule_511
