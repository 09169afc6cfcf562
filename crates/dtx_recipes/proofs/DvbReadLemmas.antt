-- Laws of what is read back of a stream: the packets of its first blocks are a prefix of those of all.
use Rattle.std.proofs.Common.{◌≡◌, ℕ, ◌/◌, ◌%◌, List, [], ◌∷◌, ◌++◌, length, refl, sym, ap, ◌∙◌, arith}
use Rattle.std.proofs.lemmas.Grind.{flat_map-append}
use Rattle.std.proofs.lemmas.List.{length-append}
use Rattle.dtx_dvb.specs.Read.{Read}
use Rattle.dtx_dvb.specs.Reading.{read_dvb}
use Rattle.dtx_dvb.proofs.ReadingLemmas.{length-read, next_of, read_more}
use Rattle.dtx_engine.specs.Made.{only, AreFrontsOf}
use Rattle.dtx_recipes.specs.DvbRead.{bytes_of_reads, dvb_reading}

pub bytes_of_reads-append : (a b : List Read) → bytes_of_reads (a ++ b) ≡ bytes_of_reads a ++ bytes_of_reads b
bytes_of_reads-append a b = flat_map-append (λ (r : Read). r.packet) a b

no_reads : (reads : List Read) → length reads ≡ 0 → reads ≡ []
no_reads [] e = refl
no_reads (r ∷ rs) e = absurd (omega (arith, e))

-- no bytes give no packets
pub read_none : read_dvb [] ≡ []
read_none = no_reads (read_dvb []) (length-read [])

pub reads_none : dvb_reading.made [] ≡ only []
reads_none = ap (λ reads. only (bytes_of_reads reads)) read_none

pub reads_more : (a b : List ℕ) → length a % 204 ≡ 0 → AreFrontsOf (dvb_reading.made a) (dvb_reading.made (a ++ b))
reads_more a b whole =
    let s : ℕ = length a / 204 in
    let n : ℕ = length b / 204 in
    let more : List Read = next_of (a ++ b) s n in
    let is : read_dvb (a ++ b) ≡ read_dvb a ++ more = read_more a b s n refl (grind (arith, length-append)) in
    ((bytes_of_reads more, sym (ap bytes_of_reads is ∙ bytes_of_reads-append (read_dvb a) more)), ([], refl))
