use Rattle.std.proofs.Common.{refl}
use Rattle.dtx_packet_jobs.proofs.feeder.FeederEngine.allows.Goals as goal

pub returns : goal.returns
returns c = refl
