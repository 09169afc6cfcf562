-- What is read of a stream's bytes.
use Rattle.std.proofs.Common.{◌≡◌, ℕ, zero, suc, ◌+◌, ◌-◌, ◌*◌, ◌/◌, ◌%◌, ◌<◌, ◌≤◌, Some, List, [], ◌∷◌, length}
use Rattle.std.proofs.Common.{take, drop, map, get_or, refl, sym, ap, ◌∙◌, subst, arith, lit<, zero-add}
use Rattle.std.specs.List.{range_with_len, sum_by}
use Rattle.std.proofs.lemmas.List.{get_or-take, length-take-le}
use Rattle.std.proofs.lemmas.List.Sums.{sum_by-cons}
use Rattle.std.proofs.lemmas.List.FromFn.{fill_by_all}
use Rattle.dtx_lists.proofs.Range.{map-range_same}
use Rattle.dtx_galois.specs.Field.{AreBytes}
use Rattle.dtx_laws.specs.Codeword.{IsCodeword, distance}
use Rattle.dtx_laws.specs.Whitening.{whitened}
use Rattle.dtx_laws.specs.Words.{codeword}
use Rattle.dtx_laws.proofs.ChoiceLemmas.{codeword_begins}
use Rattle.dtx_laws.proofs.WordsLemmas.{distance_self}
use Rattle.dtx_outer.proofs.BackLemmas.{AreData, coded_is, coded_back, near_corrected}
use Rattle.dtx_outer.specs.Inner.{word_at}
use Rattle.dtx_outer.specs.Outer.{coded}
use Rattle.dtx_outer.proofs.WordsLemmas.{length-word, word_back}
use Rattle.dtx_outer.specs.declared.inner.Taken.TheVariants.{Good}
use Rattle.dtx_dvb.specs.Read.{Read, fixed_of, flag_of, fixed_in, flagged_in}
use Rattle.dtx_dvb.specs.Randomizer.{randomizer_bytes}
use Rattle.dtx_dvb.proofs.RandomizerLemmas.{bytes_randomizer_bytes}
use Rattle.dtx_dvb.specs.Stream.{randomized, block_of, blocks, dvb}
use Rattle.dtx_dvb.proofs.StreamLemmas.{length-randomized, randomized_whitened, length-blocks, block_at, length-dvb}
use Rattle.dtx_dvb.specs.Reading.{with_sync, read_by, read_at, read_dvb}
use Rattle.dtx_dvb.proofs.ReadingLemmas.{complete_by}
use Rattle.dtx_dvb.specs.Damage.{ArePackets, block_in, wrong_in, IsSlight, as_corrected, as_sent}

-- ---- packets and their blocks

pub block_coded : (k : ℕ) (p : List ℕ) → length p ≡ 188
    → block_of k p ≡ coded 204 188 randomizer_bytes (188 * (k % 8)) p
block_coded k p l = ap (codeword 204 188) (randomized_whitened k p l)

pub block_is : (k : ℕ) (p : List ℕ) → length p ≡ 188 → AreBytes p → IsCodeword 204 188 (block_of k p)
block_is k p l b = subst (IsCodeword 204 188) (sym (block_coded k p l))
    (coded_is 204 188 randomizer_bytes (188 * (k % 8)) p (lit< tt) bytes_randomizer_bytes l b)

pub block_begins : (k : ℕ) (p : List ℕ) → take 188 (block_of k p) ≡ randomized k p
block_begins k p = codeword_begins 204 188 (randomized k p) (length-randomized k p)

pub packet_at : (ps : List (List ℕ)) (k : ℕ) → ArePackets ps → k < length ps
    → (length (get_or ps k []) ≡ 188) × AreBytes (get_or ps k []) × (get_or (get_or ps k []) 0 0 ≡ 0x47)
packet_at [] k h l = absurd (omega arith)
packet_at (p ∷ ps) zero h l = h.0
packet_at (p ∷ ps) (suc k) h l = packet_at ps k h.1 (omega arith)

-- a packet has its sync byte
synced : (p : List ℕ) → length p ≡ 188 → get_or p 0 0 ≡ 0x47 → with_sync p ≡ p
synced [] l e = absurd (omega (arith, l))
synced (x ∷ xs) l e = ap (λ (y : ℕ). y ∷ xs) (sym e)

pub block_there : (ps : List (List ℕ)) (k : ℕ) → k < length ps → take 204 (drop (204 * k) (blocks ps)) ≡ block_in ps k
unfolding block_in
block_there ps k l = block_at 0 ps k l ∙ ap (λ i. block_of i (get_or ps k [])) (zero-add k)

-- ---- one packet

-- a word near the block of packet k gives the packet back
pub corrected_back : (ps : List (List ℕ)) (y : List ℕ) (k : ℕ) → ArePackets ps → k < length ps
    → wrong_in ps y k ≤ 8 → read_at y k ≡ as_corrected ps y k
unfolding read_at as_corrected wrong_in block_in
corrected_back ps y k h l n =
    let word : List ℕ = word_at 204 12 17 y k in
    let packet : List ℕ = get_or ps k [] in
    let from : ℕ = 188 * (k % 8) in
    let own : (length (get_or ps k []) ≡ 188) × AreBytes (get_or ps k []) × (get_or (get_or ps k []) 0 0 ≡ 0x47) =
    packet_at ps k h l in
    let is : block_of k (get_or ps k []) ≡ coded 204 188 randomizer_bytes (188 * (k % 8)) (get_or ps k []) =
    block_coded k (get_or ps k []) own.0 in
    let sound : AreData 204 188 randomizer_bytes (get_or ps k []) = record {
      longer = lit< tt;
      few = omega arith;
      whitener = bytes_randomizer_bytes;
      long = own.0;
      bytes = own.1;
    } in
    let same : with_sync
    (whitened randomizer_bytes (188 * (k % 8)) (take 188 (block_of k (get_or ps k [])))) ≡ get_or ps k [] =
    ap (λ (c : List ℕ). with_sync (whitened randomizer_bytes from (take 188 c))) is
    ∙ ap with_sync (coded_back 204 188 randomizer_bytes from packet own.0) ∙ synced packet own.0 own.2 in
    ap (read_by from word) (near_corrected 204 188 randomizer_bytes from packet word sound (length-word 204 12 17 y k)
    (omega (arith, n, ap (distance word) is)) ∙ ap Some (sym is))
    ∙ ap (λ (d : List ℕ). record { taken = Good (distance word (block_of k packet)); packet = d }) same

-- ---- all packets

numbers : (n m : ℕ) → n ≡ 204 * m → n / 204 - 11 ≡ m - 11
numbers n m e = omega (arith, e)

pub all_back : (ps : List (List ℕ)) (y : List ℕ) → ArePackets ps → IsSlight ps y
    → read_dvb y ≡ map (as_corrected ps y) (range_with_len 0 (length ps - 11))
unfolding read_dvb
all_back ps y h s = grind (arith, numbers, map-range_same, corrected_back)

-- the first m packets, by their numbers
pub firsts : (ps : List (List ℕ)) (m : ℕ) → m ≤ length ps → take m ps ≡ map (λ k. get_or ps k []) (range_with_len 0 m)
firsts ps m l =
    fill_by_all (λ k. get_or ps k []) (take m ps) m [] (length-take-le m ps l) (λ k h. get_or-take m ps k [] h)

each_packet : (ps : List (List ℕ)) (y : List ℕ) (ks : List ℕ)
    → map (λ (r : Read). r.packet) (map (as_corrected ps y) ks) ≡ map (λ k. get_or ps k []) ks
unfolding as_corrected
each_packet ps y [] = refl
each_packet ps y (k ∷ ks) = ap (λ xs. get_or ps k [] ∷ xs) (each_packet ps y ks)

pub packets_back : (ps : List (List ℕ)) (y : List ℕ) → ArePackets ps → IsSlight ps y
    → map (λ (r : Read). r.packet) (read_dvb y) ≡ take (length ps - 11) ps
packets_back ps y h s = ap (map (λ (r : Read). r.packet)) (all_back ps y h s) ∙ grind (arith, each_packet, firsts)

each_flag : (ps : List (List ℕ)) (y : List ℕ) (ks : List ℕ)
    → sum_by (λ (r : Read). flag_of r.taken) (map (as_corrected ps y) ks) ≡ 0
unfolding as_corrected
each_flag ps y [] = refl
each_flag ps y (k ∷ ks) = each_flag ps y ks

pub none_flagged : (ps : List (List ℕ)) (y : List ℕ) → ArePackets ps → IsSlight ps y → flagged_in (read_dvb y) ≡ 0
unfolding flagged_in
none_flagged ps y h s = rw (all_back ps y h s, each_flag ps y (range_with_len 0 (length ps - 11)))

each_fixed : (ps : List (List ℕ)) (y : List ℕ) (ks : List ℕ)
    → sum_by (λ (r : Read). fixed_of r.taken) (map (as_corrected ps y) ks) ≡ sum_by (wrong_in ps y) ks
unfolding as_corrected
each_fixed ps y [] = refl
each_fixed ps y (k ∷ ks) =
    sum_by-cons (λ (r : Read). fixed_of r.taken) (as_corrected ps y k) (map (as_corrected ps y) ks)
    ∙ ap (λ (n : ℕ). wrong_in ps y k + n) (each_fixed ps y ks)
    ∙ sym (sum_by-cons (wrong_in ps y) k ks)

pub all_fixed : (ps : List (List ℕ)) (y : List ℕ) → ArePackets ps → IsSlight ps y
    → fixed_in (read_dvb y) ≡ sum_by (wrong_in ps y) (range_with_len 0 (length ps - 11))
unfolding fixed_in
all_fixed ps y h s = rw (all_back ps y h s, each_fixed ps y (range_with_len 0 (length ps - 11)))

-- ---- undamaged

pub word_is : (ps : List (List ℕ)) (k : ℕ) → k + 11 < length ps → word_at 204 12 17 (dvb ps) k ≡ block_in ps k
unfolding dvb
word_is ps k l = word_back 204 12 17 (blocks ps) (dvb ps) k (lit< tt) (λ p m. refl)
    (complete_by (length (blocks ps)) k (omega (arith, l, length-blocks 0 ps)))
    ∙ block_there ps k (omega (arith, l))

none_wrong : (ps : List (List ℕ)) (k : ℕ) → k + 11 < length ps → wrong_in ps (dvb ps) k ≡ 0
unfolding wrong_in
none_wrong ps k l = ap (λ w. distance w (block_in ps k)) (word_is ps k l) ∙ distance_self (block_in ps k)

pub undamaged : (ps : List (List ℕ)) → IsSlight ps (dvb ps)
undamaged ps = record { as_many = length-dvb ps; near = λ k l. omega (arith, none_wrong ps k l) }

map-map_sent : (ps : List (List ℕ)) (ks : List ℕ)
    → map (λ k. as_sent (get_or ps k [])) ks ≡ map as_sent (map (λ k. get_or ps k []) ks)
map-map_sent ps [] = refl
map-map_sent ps (k ∷ ks) = ap (λ xs. as_sent (get_or ps k []) ∷ xs) (map-map_sent ps ks)

sent_back : (ps : List (List ℕ)) (k : ℕ) → k + 11 < length ps → as_corrected ps (dvb ps) k ≡ as_sent (get_or ps k [])
unfolding as_corrected
sent_back ps k l = ap (λ (n : ℕ). record { taken = Good n; packet = get_or ps k [] }) (none_wrong ps k l)

pub all_as_sent : (ps : List (List ℕ)) → ArePackets ps → read_dvb (dvb ps) ≡ map as_sent (take (length ps - 11) ps)
all_as_sent ps h = all_back ps (dvb ps) h (undamaged ps)
    ∙ map-range_same (as_corrected ps (dvb ps)) (λ k. as_sent (get_or ps k [])) 0 (length ps - 11)
    (λ k a b. sent_back ps k (omega (arith, b))) ∙ grind (arith, map-map_sent, firsts)
