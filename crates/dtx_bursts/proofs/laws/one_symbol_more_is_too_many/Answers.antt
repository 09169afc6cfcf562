use Rattle.dtx_bursts.proofs.TooMany.{one_more}
use Rattle.dtx_bursts.proofs.TooManyMissing.{one_more as one_missing_more}
use Rattle.dtx_bursts.proofs.laws.one_symbol_more_is_too_many.Goals as goal

pub returns-clause-wrong : goal.returns-clause-wrong
returns-clause-wrong c = one_more

pub returns-clause-missing : goal.returns-clause-missing
returns-clause-missing c = one_missing_more
