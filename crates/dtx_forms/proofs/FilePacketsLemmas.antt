-- Lemmas of the packets of a file.
use Rattle.std.proofs.Common.{◌≡◌, ℕ, zero, suc, ◌+◌, ◌-◌, ◌*◌, ◌/◌, ◌%◌, ◌<◌, ◌≤◌, List, [], ◌++◌, length}
use Rattle.std.proofs.Common.{take, drop, refl, sym, ap, ◌∙◌, arith}
use Rattle.std.specs.List.{All}
use Rattle.std.specs.Simd.{first_chunks}
use Rattle.std.proofs.lemmas.List.{take_at, length-drop, length-take-le}
use Rattle.std.proofs.lemmas.List.Elements.{All-from_get_or}
use Rattle.std.proofs.lemmas.List.FromFn.{fill_by_all, get_or-map-range_with_len, length-map-range_with_len}
use Rattle.dtx_packets.proofs.ChunksLemmas.{get_or-first_chunks}
use Rattle.dtx_packets.proofs.PacketLemmas.{packets_from-append, packets_of-append, packets_of-piece}
use Rattle.dtx_packets.specs.Packets.{packet_at, packets_from, packets_of, whole_packets}

-- a packet has 188 bytes
abbrev pub IsLong : List ℕ → Type 0
IsLong packet = length packet ≡ 188

pub length-packets_of : (file : List ℕ) → length (packets_of file) ≡ whole_packets file
length-packets_of file = length-map-range_with_len (packet_at file) 0 (whole_packets file)

pub long-packets_of : (file : List ℕ) → All IsLong (packets_of file)
long-packets_of file = All-from_get_or IsLong (packets_of file) [] (λ k within.
    let below : k < whole_packets file = omega (arith, within, length-packets_of file) in
    ap (λ (p : List ℕ). length p) (get_or-map-range_with_len (packet_at file) 0 (whole_packets file) k k [] below
    (omega arith))
    ∙ length-take-le 188 (drop (188 * k) file) (omega (arith, below, length-drop (188 * k) file)))

-- the first packets of a file
pub front_of : (file : List ℕ) (m : ℕ) → m ≤ whole_packets file → take m (packets_of file) ≡ packets_from file 0 m
front_of file m within = ap (take m) (ap (packets_from file 0) (sym (omega (arith, within)))
    ∙ packets_from-append file 0 m (whole_packets file - m))
    ∙ take_at (packets_from file 0 m) (packets_from file (0 + m) (whole_packets file - m)) m
    (length-map-range_with_len (packet_at file) 0 m)

length-chunks : {X : Type 0} (n k : ℕ) (xs : List X) → length (first_chunks n k xs) ≡ k
length-chunks n zero xs = refl
length-chunks n (suc k) xs = ap (λ (m : ℕ). suc m) (length-chunks n k (drop n xs))

-- the chunks of 188 bytes are packets
pub packets_are : (bytes : List ℕ) → first_chunks 188 (length bytes / 188) bytes ≡ packets_of bytes
packets_are bytes =
    fill_by_all (packet_at bytes) (first_chunks 188 (whole_packets bytes) bytes) (whole_packets bytes) []
    (grind (arith, length-chunks)) (λ k within. get_or-first_chunks 188 (whole_packets bytes) bytes k within)

-- packets that are taken behind whole ones: the first chunks of some bytes
pub packets_on : (given bytes : List ℕ) (n : ℕ) (chunks : List (List ℕ)) → length given % 188 ≡ 0
    → chunks ≡ first_chunks 188 (length bytes / 188) bytes → n ≤ whole_packets bytes
    → packets_of (given ++ take (188 * n) bytes) ≡ packets_of given ++ take n chunks
packets_on given bytes n chunks whole is within = packets_of-append given (take (188 * n) bytes) whole
    ∙ ap (λ ps. packets_of given ++ ps)
    (rw (packets_of-piece bytes 0 n (omega (arith, within)), ← front_of bytes n within, ← packets_are bytes, ← is))
