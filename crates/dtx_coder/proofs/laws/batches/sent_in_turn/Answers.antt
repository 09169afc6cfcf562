use Rattle.dtx_coder.proofs.BatchesLemmas.{ahead_coded, ahead_on, ahead_all}
use Rattle.dtx_coder.proofs.laws.batches.sent_in_turn.Goals as goal

pub returns-clause-coded : goal.returns-clause-coded
returns-clause-coded c = ahead_coded

pub returns-clause-ahead : goal.returns-clause-ahead
returns-clause-ahead c = ahead_on

pub returns-clause-all : goal.returns-clause-all
returns-clause-all c = ahead_all
