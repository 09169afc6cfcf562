-- Made packets are a stream, with a placeholder at packet 100.
use Rattle.std.proofs.Common.{◌≡◌, ℕ, zero, suc, ◌+◌, ◌/◌, ◌%◌, ◌<◌, ◌≤◌, ◌==◌, ◌^◌, cond, Bool, true, false, [], ◌∷◌}
use Rattle.std.proofs.Common.{◌++◌, length, map, get_or, refl, sym, ap, subst, ◌∙◌, arith, lit<}
use Rattle.std.specs.Prelude.{replicate}
use Rattle.std.specs.List.{range_with_len}
use Rattle.std.proofs.lemmas.List.Elements.{All-from_get_or}
use Rattle.std.proofs.lemmas.List.FromFn.{get_or-map-range_with_len, length-map-range_with_len}
use Rattle.dtx_galois.proofs.BytesLemmas.{AreBytes-from_places}
use Rattle.dtx_galois.specs.Field.{AreBytes}
use Rattle.dtx_make.specs.Made.{made_packet, made_payload, number_at}
use Rattle.dtx_make.proofs.StreamsLemmas.{length-made_packet, number_more}
use Rattle.dtx_network.specs.Orders.{has_order, is_operations}
use Rattle.dtx_network.specs.Plans.{IsStream}
use Rattle.dtx_top.specs.WorkedNetwork.{made_packets}

high : (x : ℕ) → x % 2 ^ 64 / 2 ^ 56 < 256
high x = omega arith

payload_bytes : (seed index : ℕ) → AreBytes (made_payload seed index)
unfolding made_payload
payload_bytes seed index =
    AreBytes-from_places (map (λ j. number_at seed index (j + 1) / 2 ^ 56) (range_with_len 0 184)) (λ i l.
    let m : i < 184 = omega (arith, l, length-map-range_with_len (λ j. number_at seed index (j + 1) / 2 ^ 56) 0 184) in
    subst (λ (x : ℕ). x < 256)
    (sym (get_or-map-range_with_len (λ j. number_at seed index (j + 1) / 2 ^ 56) 0 184 i i 0 m (omega arith)
    ∙ ap (λ (x : ℕ). x / 2 ^ 56) (number_more seed index i))) (grind (arith, high)))

zeros : (n : ℕ) → AreBytes (replicate n 0)
zeros zero = tt
zeros (suc n) = (lit< tt, zeros n)

pub packet_bytes : (seed index : ℕ) → AreBytes (made_packet seed index)
unfolding made_packet
packet_bytes seed index = choose (index % 312 == 100)
  where
    choose : (t : Bool) → AreBytes (cond t ((0x47 ∷ 0x1F ∷ 0xFA ∷ 0x10 ∷ []) ++ replicate 184 0)
        ((0x47 ∷ 0x00 ∷ 0x31 ∷ (0x10 + index % 16) ∷ []) ++ made_payload seed index))
    choose true = (lit< tt, (lit< tt, (lit< tt, (lit< tt, zeros 184))))
    choose false = (lit< tt, (lit< tt, (lit< tt, (omega arith, payload_bytes seed index))))

pub packet_in : (seed count i : ℕ) → i < count → get_or (made_packets seed count) i [] ≡ made_packet seed i
unfolding made_packets
packet_in seed count i l = get_or-map-range_with_len (made_packet seed) 0 count i i [] l (omega arith)

pub length-made : (seed count : ℕ) → length (made_packets seed count) ≡ count
unfolding made_packets
length-made seed count = length-map-range_with_len (made_packet seed) 0 count

pub made_stream : (seed count : ℕ) → count ≤ 624000000 → IsStream (made_packets seed count)
made_stream seed count most = record {
  most = omega (arith, most, length-made seed count);
  long = All-from_get_or (λ packet. length packet ≡ 188) (made_packets seed count) [] (λ i l.
      ap length (packet_in seed count i (omega (arith, l, length-made seed count))) ∙ length-made_packet seed i);
  bytes = All-from_get_or AreBytes (made_packets seed count) [] (λ i l.
      subst AreBytes (sym (packet_in seed count i (omega (arith, l, length-made seed count)))) (packet_bytes seed i));
}

placeholder : (seed : ℕ) → made_packet seed 100 ≡ (0x47 ∷ 0x1F ∷ 0xFA ∷ 0x10 ∷ []) ++ replicate 184 0
unfolding made_packet
placeholder seed = refl

pub made_order : (seed count : ℕ) → 104 ≤ count → has_order (made_packets seed count) 100 ≡ true
unfolding has_order is_operations
made_order seed count l = grind (arith, packet_in, placeholder)
