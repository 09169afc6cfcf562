use Rattle.dtx_chain.proofs.SlightLemmas.{one_run_left}
use Rattle.dtx_chain.proofs.AllBackLemmas.{all_back, all_good, none_flagged}
use Rattle.dtx_chain.proofs.laws.gives_all_back.Goals as goal

pub returns-clause-run : goal.returns-clause-run
returns-clause-run c = λ packets first sent got received some slight.
    one_run_left packets first sent got received some slight.found

pub returns-clause-packets : goal.returns-clause-packets
returns-clause-packets c = all_back

pub returns-clause-good : goal.returns-clause-good
returns-clause-good c = all_good

pub returns-clause-unflagged : goal.returns-clause-unflagged
returns-clause-unflagged c = none_flagged
