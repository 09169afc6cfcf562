use Rattle.dtx_exciter.proofs.HowMany.{none_given, some_given}
use Rattle.dtx_exciter.proofs.laws.sent_packets_give.Goals as goal

pub returns-clause-none : goal.returns-clause-none
returns-clause-none c = none_given

pub returns-clause-some : goal.returns-clause-some
returns-clause-some c = some_given
