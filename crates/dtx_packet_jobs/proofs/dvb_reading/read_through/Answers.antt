use Rattle.std.proofs.Common.{sym, subst}
use Rattle.dtx_packet_jobs.specs.DvbReading.{HasGathered}
use Rattle.dtx_packet_jobs.proofs.dvb_reading.read_through.Goals as goal

pub returns-clause-gathered : goal.returns-clause-gathered
returns-clause-gathered c = λ given before stands was.
    subst (λ reads. HasGathered c.gather_batch.new.self reads before) (sym (c.batch.ensures.packets given stands))
    (c.gather_batch.ensures.gathered _ before was)
