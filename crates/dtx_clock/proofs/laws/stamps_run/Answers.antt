use Rattle.dtx_clock.proofs.StampsLemmas.{stamps_run}
use Rattle.dtx_clock.proofs.laws.stamps_run.Goals as goal

pub returns : goal.returns
returns c = stamps_run
