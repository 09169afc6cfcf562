-- The addresses of the transmitters that were read so far differ from each other.
use Rattle.std.proofs.Common.{◌≡◌, nat_eq, false, List, [], ◌∷◌, ◌++◌, arith}
use Rattle.std.specs.List.{IsDistinct}
use Rattle.std.proofs.lemmas.List.{map-append}
use Rattle.std.proofs.lemmas.Map.Keys.{IsDistinct-push}
use Rattle.dtx_plan.specs.declared.transmitter.Transmitter.{Transmitter}
use Rattle.dtx_plan.specs.TransmitterTable.{addresses_of, has_address}

-- those of none
pub distinct_none : (ts : List Transmitter) → ts ≡ [] → IsDistinct nat_eq (addresses_of ts)
unfolding IsDistinct
distinct_none ts e = rw e tt

-- those of one more, whose address no earlier one has
pub distinct_more : (ts : List Transmitter) (t : Transmitter) → IsDistinct nat_eq (addresses_of ts)
    → has_address t.address ts ≡ false → IsDistinct nat_eq (addresses_of (ts ++ t ∷ []))
distinct_more ts t distinct once = grind (arith, map-append, IsDistinct-push)
