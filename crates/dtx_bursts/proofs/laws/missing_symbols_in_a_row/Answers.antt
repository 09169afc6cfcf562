use Rattle.dtx_bursts.proofs.Longer.{longer_gap}
use Rattle.dtx_bursts.proofs.Mended.{all_back, gap_missing, none_flagged}
use Rattle.dtx_bursts.proofs.laws.missing_symbols_in_a_row.Goals as goal

pub returns-clause-words : goal.returns-clause-words
returns-clause-words c = λ packets first count from sent got is are few gap.
    gap_missing packets first from sent got is are (longer_gap count 4141 from sent got few gap)

pub returns-clause-packets : goal.returns-clause-packets
returns-clause-packets c = λ packets first count from sent got is are some found few gap.
    all_back packets first from sent got is are some found (longer_gap count 4141 from sent got few gap)

pub returns-clause-unflagged : goal.returns-clause-unflagged
returns-clause-unflagged c = λ packets first count from sent got is are some found few gap.
    none_flagged packets first from sent got is are some found (longer_gap count 4141 from sent got few gap)
