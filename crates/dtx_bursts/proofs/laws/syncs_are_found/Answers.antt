use Rattle.dtx_bursts.proofs.Mended.{gap_is_burst}
use Rattle.dtx_bursts.proofs.Syncs.{burst_found}
use Rattle.dtx_bursts.proofs.laws.syncs_are_found.Goals as goal

pub returns-clause-wrong : goal.returns-clause-wrong
returns-clause-wrong c = burst_found

pub returns-clause-missing : goal.returns-clause-missing
returns-clause-missing c = λ packets first count from sent got received leaves gap.
    burst_found packets first count from sent got received leaves (gap_is_burst count from sent got gap)
