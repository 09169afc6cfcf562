use Rattle.std.proofs.Common.{sym, subst}
use Rattle.dtx_outer.specs.Inner.{Kept, StandsFor}
use Rattle.dtx_packet_jobs.proofs.dvb_reading.DvbReading.read_batch.Goals as goal

pub returns-clause-read : goal.returns-clause-read
returns-clause-read c = λ given before is.
    let stands = subst (λ (k : Kept). StandsFor 204 188 12 17 k given) (sym c.deref_mut.ensures.value) is.reader in
    record {
      reader = c.read_through.ensures.stands given stands;
      gathered = c.read_through.ensures.gathered given before stands is.gathered;
    }
