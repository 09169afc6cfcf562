use Rattle.std.proofs.Common.{sym, subst}
use Rattle.dtx_outer.specs.Inner.{Kept, StandsFor}
use Rattle.dtx_packet_jobs.specs.DvbReading.{HasGathered}
use Rattle.dtx_packet_jobs.proofs.dvb_reading.DvbReading.read_one.Goals as goal

pub returns-clause-read : goal.returns-clause-read
returns-clause-read c = λ given before is.
    let stands = subst (λ (k : Kept). StandsFor 204 188 12 17 k given) (sym c.deref_mut.ensures.value) is.reader in
    let was = is.gathered in
    record {
      reader = c.block-taken.ensures.stands given stands;
      gathered = subst (λ reads. HasGathered c.gather.new.self reads before)
          (sym (c.block-taken.ensures.packets given stands))
          (c.gather.ensures.gathered _ before
          (record { fixed = was.fixed; flagged = was.flagged; bytes = was.bytes }));
    }
