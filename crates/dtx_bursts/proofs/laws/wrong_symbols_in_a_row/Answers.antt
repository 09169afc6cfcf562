use Rattle.dtx_bursts.proofs.Longer.{longer_burst}
use Rattle.dtx_bursts.proofs.Slight.{burst_slight}
use Rattle.dtx_bursts.proofs.laws.wrong_symbols_in_a_row.Goals as goal

pub returns : goal.returns
returns c = λ packets first count from sent got is are found few burst.
    burst_slight packets first from sent got is are found (longer_burst count 2022 from sent got few burst)
