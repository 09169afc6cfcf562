-- Laws of what is sent of a stream: the bytes of its first packets are a prefix of those of all.
use Rattle.std.proofs.Common.{◌≡◌, ℕ, ◌%◌, List, [], ◌∷◌, ◌++◌, length, refl, sym, ap, ◌∙◌, arith}
use Rattle.dtx_dvb.specs.Stream.{dvb}
use Rattle.dtx_dvb.proofs.StreamLemmas.{dvb_append, bytes_behind, length-dvb}
use Rattle.dtx_engine.specs.Made.{only, AreFrontsOf}
use Rattle.dtx_packets.proofs.PacketLemmas.{packets_of-append}
use Rattle.dtx_packets.specs.Packets.{packets_of}
use Rattle.dtx_recipes.specs.DvbCode.{dvb_coding}

no_bytes : (xs : List ℕ) → length xs ≡ 0 → xs ≡ []
no_bytes [] e = refl
no_bytes (x ∷ xs) e = absurd (omega (arith, e))

-- no packets give no bytes
pub dvb_none : dvb [] ≡ []
dvb_none = no_bytes (dvb []) (length-dvb [])

pub sends_none : dvb_coding.made [] ≡ only []
sends_none = ap only dvb_none

pub sends_more : (a b : List ℕ) → length a % 188 ≡ 0 → AreFrontsOf (dvb_coding.made a) (dvb_coding.made (a ++ b))
sends_more a b whole = (
  (
    bytes_behind (packets_of a) (packets_of b),
    sym (ap dvb (packets_of-append a b whole) ∙ dvb_append (packets_of a) (packets_of b)),
  ),
  ([], refl),
)
