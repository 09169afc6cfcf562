-- Packets of 188 bytes each as the bytes of a file.
use Rattle.std.proofs.Common.{◌≡◌, ℕ, zero, suc, ◌+◌, ◌*◌, ◌<◌, List, [], ◌∷◌, ◌++◌, length, get_or}
use Rattle.std.proofs.Common.{take, drop, refl, sym, ap, ◌∙◌, arith}
use Rattle.std.specs.List.{All}
use Rattle.std.proofs.lemmas.List.{take_at, drop_at, drop-drop, length-append}
use Rattle.std.proofs.lemmas.List.Elements.{All-head, All-tail}
use Rattle.std.proofs.lemmas.List.FromFn.{fill_by_all}
use Rattle.dtx_packets.specs.Packets.{packet_at, packets_from, packets_of, whole_packets}
use Rattle.dtx_forms.proofs.FilePacketsLemmas.{IsLong}
use Rattle.dtx_recipes.specs.Adapt.{bytes_of_packets}

pub length-bytes_of_packets : (packets : List (List ℕ)) → All IsLong packets
    → length (bytes_of_packets packets) ≡ 188 * length packets
length-bytes_of_packets [] long = omega arith
length-bytes_of_packets (p ∷ ps) long = omega (
  arith,
  length-append p (bytes_of_packets ps),
  All-head IsLong p ps long,
  length-bytes_of_packets ps (All-tail IsLong p ps long),
)

-- packet k of their bytes is the k-th of them
packet_at-bytes : (packets : List (List ℕ)) (k : ℕ) → All IsLong packets → k < length packets
    → packet_at (bytes_of_packets packets) k ≡ get_or packets k []
packet_at-bytes [] k long within = absurd (omega (arith, within))
packet_at-bytes (p ∷ ps) zero long within = take_at p (bytes_of_packets ps) 188 (All-head IsLong p ps long)
packet_at-bytes (p ∷ ps) (suc k) long within = ap (λ n. take 188 (drop n (p ++ bytes_of_packets ps))) (omega arith)
    ∙ ap (take 188) (sym (drop-drop (188 * k) 188 (p ++ bytes_of_packets ps))
    ∙ ap (drop (188 * k)) (drop_at p (bytes_of_packets ps) 188 (All-head IsLong p ps long)))
    ∙ packet_at-bytes ps k (All-tail IsLong p ps long) (omega (arith, within))

pub whole_packets-bytes : (packets : List (List ℕ)) → All IsLong packets
    → whole_packets (bytes_of_packets packets) ≡ length packets
whole_packets-bytes packets long = omega (arith, length-bytes_of_packets packets long)

-- they are read back
pub packets_of-bytes : (packets : List (List ℕ)) → All IsLong packets → packets_of (bytes_of_packets packets) ≡ packets
packets_of-bytes packets long = ap (packets_from (bytes_of_packets packets) 0) (whole_packets-bytes packets long)
    ∙ sym (fill_by_all (packet_at (bytes_of_packets packets)) packets (length packets) [] refl
    (λ k within. sym (packet_at-bytes packets k long within)))
