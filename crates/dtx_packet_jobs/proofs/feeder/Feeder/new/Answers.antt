use Rattle.std.proofs.Common.{refl}
use Rattle.dtx_packet_jobs.proofs.Feeding.{none_filled}
use Rattle.dtx_packet_jobs.proofs.feeder.Feeder.new.Goals as goal

pub returns-clause-fresh : goal.returns-clause-fresh
returns-clause-fresh c = record { adapter = c.in_ok-new.ensures.stands; count = refl; filled = none_filled }
