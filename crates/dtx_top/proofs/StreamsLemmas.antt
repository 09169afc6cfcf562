-- The packets of a file that consists of bytes. They are a stream, where they are not too many.
use Rattle.std.proofs.Common.{ℕ, ◌*◌, ◌<◌, ◌≤◌, List, drop, arith}
use Rattle.std.proofs.lemmas.List.Elements.{All-from_get_or}
use Rattle.std.proofs.lemmas.List.FromFn.{get_or-map-range_with_len}
use Rattle.dtx_galois.specs.Field.{AreBytes}
use Rattle.dtx_forms.proofs.FilePacketsLemmas.{length-packets_of, long-packets_of}
use Rattle.dtx_jobs.proofs.SymbolsBackLemmas.{each_drop, each_take}
use Rattle.dtx_network.specs.Plans.{IsStream}
use Rattle.dtx_packets.specs.Packets.{packet_at, packets_of, whole_packets}

pub AreBytes-packet_at : (file : List ℕ) → AreBytes file → (k : ℕ) → AreBytes (packet_at file k)
AreBytes-packet_at file are k = each_take (λ b. b < 256) 188 (drop (188 * k) file) (grind (arith, each_drop))

pub is_stream : (file : List ℕ) → AreBytes file → whole_packets file ≤ 624000000 → IsStream (packets_of file)
is_stream file are few =
    grind (arith, length-packets_of, long-packets_of, All-from_get_or, get_or-map-range_with_len, AreBytes-packet_at)
