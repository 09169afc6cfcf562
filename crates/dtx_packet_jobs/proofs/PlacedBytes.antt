-- The bytes that are placed, as the units of a file come.
use Rattle.std.proofs.Common.{◌≡◌, ℕ, zero, suc, ◌+◌, ◌*◌, ◌%◌, ◌≤◌, List, [], ◌∷◌, ◌++◌, length, take}
use Rattle.std.proofs.Common.{refl, sym, ap, ◌∙◌, arith}
use Rattle.std.specs.Prelude.{flat_map}
use Rattle.std.proofs.lemmas.Grind.{flat_map-append}
use Rattle.std.proofs.lemmas.List.{append-nil, take_all}
use Rattle.std.proofs.lemmas.List.FromFn.{map-range_with_len_more}
use Rattle.dtx_meaning.specs.Meaning.{each}
use Rattle.dtx_meaning.proofs.EachLemmas.{each-next}
use Rattle.dtx_packets.specs.Packets.{packet_at, packets_from, packets_of, whole_packets}
use Rattle.dtx_packets.proofs.PacketLemmas.{packets_of-append, packets_of-piece}
use Rattle.dtx_recipes.specs.Place.{placed, placed_behind, placed_one, placing}
use Rattle.dtx_packet_jobs.proofs.PlacedPackets.{placed-next}

-- one packet more
pub packets_of-next : (given packet : List ℕ) → length given % 188 ≡ 0 → length packet ≡ 188
    → packets_of (given ++ packet) ≡ packets_of given ++ packet ∷ []
packets_of-next given packet whole long =
    let one : whole_packets packet ≡ 1 = omega (arith, long) in
    packets_of-append given packet whole
    ∙ ap (λ (ps : List (List ℕ)). packets_of given ++ ps) (rw (one, take_all 188 packet (omega (arith, long))))

-- the bytes of the first packets
each_placed : (bytes : List ℕ) (n : ℕ) → n ≤ whole_packets bytes
    → each 188 placed_behind [] n bytes ≡ flat_map (λ p. p) (placed (packets_from bytes 0 n))
unfolding placed
each_placed bytes zero within = refl
each_placed bytes (suc n) within =
    let more : suc n ≡ n + 1 = omega arith in
    let fits : n ≤ whole_packets bytes = omega (arith, within) in
    let before = packets_from bytes 0 n in
    let packet = packet_at bytes n in
    let put = placed_one before packet in
    let given : packets_of (take (188 * n) bytes) ≡ before = packets_of-piece bytes 0 n (omega (arith, fits)) in
    let next : packets_from bytes 0 (n + 1) ≡ before ++ packet ∷ [] =
    map-range_with_len_more (packet_at bytes) 0 n n (omega arith) in
    ap (λ (m : ℕ). each 188 placed_behind [] m bytes) more ∙ each-next 188 placed_behind [] n bytes
    ∙ ap (λ (ps : List (List ℕ)). each 188 placed_behind [] n bytes ++ placed_one ps packet) given
    ∙ ap (λ (b : List ℕ). b ++ put) (each_placed bytes n fits)
    ∙ ap (λ (b : List ℕ). flat_map (λ p. p) (placed before) ++ b) (sym (append-nil put))
    ∙ sym (flat_map-append (λ (p : List ℕ). p) (placed before) (put ∷ []))
    ∙ ap (λ (ps : List (List ℕ)). flat_map (λ p. p) ps) (sym (placed-next before packet)) ∙ grind arith

-- the bytes that the engine makes
pub made_placed : (bytes : List ℕ) → (placing.made bytes).first ≡ flat_map (λ p. p) (placed (packets_of bytes))
made_placed bytes = each_placed bytes (whole_packets bytes) (omega arith)
