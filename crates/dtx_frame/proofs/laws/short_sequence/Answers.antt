use Rattle.dtx_frame.proofs.RecurrencesLemmas.{length_63, front_63, rule_63}
use Rattle.dtx_frame.proofs.laws.short_sequence.Goals as goal

pub returns-clause-long : goal.returns-clause-long
returns-clause-long c = length_63

pub returns-clause-begins : goal.returns-clause-begins
returns-clause-begins c = front_63

pub returns-clause-goes_on : goal.returns-clause-goes_on
returns-clause-goes_on c = rule_63
