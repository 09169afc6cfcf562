-- The words of a stream's bytes are the codewords of its packets.
use Rattle.std.proofs.Common.{◌≡◌, ℕ, zero, suc, ◌+◌, ◌-◌, ◌*◌, ◌/◌, ◌%◌, ◌<◌, true, List, [], ◌∷◌, length, take, drop}
use Rattle.std.proofs.Common.{get_or, refl, sym, ap, ap₂, ◌∙◌, subst, arith, lit<, zero-add}
use Rattle.std.specs.Prelude.{Option, Some, None}
use Rattle.std.proofs.lemmas.List.{length-drop, take-append-drop, get_or-take}
use Rattle.std.proofs.lemmas.List.FromFn.{get_or-map-range_with_len}
use Rattle.dtx_galois.specs.Field.{AreBytes}
use Rattle.dtx_galois.proofs.BytesLemmas.{bytes_append}
use Rattle.dtx_laws.specs.Codeword.{IsCodeword, distance}
use Rattle.dtx_laws.specs.Interleaving.{interleaved, interleaved_at}
use Rattle.dtx_laws.specs.Whitening.{whitened}
use Rattle.dtx_laws.specs.Words.{codeword, correction}
use Rattle.dtx_laws.proofs.WordsLemmas.{distance_self}
use Rattle.dtx_whiten.specs.Randomizer.{randomizer_bytes, randomized}
use Rattle.dtx_whiten.proofs.BytesLemmas.{bytes_randomizer_bytes}
use Rattle.dtx_whiten.proofs.PacketsLemmas.{randomized_whitened}
use Rattle.dtx_outer.proofs.BackLemmas.{AreData, coded_is, coded_back, near_corrected, near_if_corrected}
use Rattle.dtx_outer.specs.Inner.{word_at, IsComplete}
use Rattle.dtx_outer.specs.Outer.{coded as coded_by}
use Rattle.dtx_outer.proofs.WordsLemmas.{length-word, word_stays, word_back}
use Rattle.dtx_coder.specs.Stream.{coded_from, coded, spread, whole_groups}
use Rattle.dtx_coder.proofs.BytesLemmas.{coded_at, length-coded, length-whole}
use Rattle.dtx_receiver.specs.Packets.{packet_bytes, received_by, received_at}
use Rattle.dtx_receiver.specs.declared.batch.Received.{Received}
use Rattle.dtx_chain.specs.Damage.{ArePackets, as_received, as_sent, codeword_at, IsNear, as_corrected}

-- ---- codewords

bytes_behind : (p : List ℕ) → AreBytes p → AreBytes (drop 1 p)
bytes_behind [] b = tt
bytes_behind (x ∷ xs) b = b.1

coded_is_own : (k : ℕ) (p : List ℕ) → length p ≡ 188
    → codeword 207 187 (randomized k p) ≡ coded_by 207 187 randomizer_bytes (187 * (k % 312)) (drop 1 p)
coded_is_own k p l = ap (codeword 207 187) (randomized_whitened k p l)

sound : (p : List ℕ) → length p ≡ 188 → AreBytes p → AreData 207 187 randomizer_bytes (drop 1 p)
sound p l b = record {
  longer = lit< tt;
  few = omega arith;
  whitener = bytes_randomizer_bytes;
  long = length-drop 1 p ∙ ap (λ n. n - 1) l;
  bytes = bytes_behind p b;
}

pub is_codeword : (k : ℕ) (p : List ℕ) → length p ≡ 188 → AreBytes p
    → IsCodeword 207 187 (codeword 207 187 (randomized k p))
is_codeword k p l b = subst (IsCodeword 207 187) (sym (coded_is_own k p l))
    (coded_is 207 187 randomizer_bytes (187 * (k % 312)) (drop 1 p) (sound p l b).longer (sound p l b).whitener
    (sound p l b).long (sound p l b).bytes)

bytes_coded : (k : ℕ) (ps : List (List ℕ)) → ArePackets ps → AreBytes (coded_from k ps)
unfolding coded_from
bytes_coded k [] h = tt
bytes_coded k (p ∷ ps) h =
    bytes_append (codeword 207 187 (randomized k p)) (coded_from (k + 1) ps) (is_codeword k p h.0.0 h.0.1).bytes
    (bytes_coded (k + 1) ps h.1)

-- ---- bytes

byte_at : (xs : List ℕ) (i : ℕ) → AreBytes xs → get_or xs i 0 < 256
byte_at [] i b = lit< tt
byte_at (x ∷ xs) zero b = b.0
byte_at (x ∷ xs) (suc i) b = byte_at xs i b.1

interleaved_small : (b m : ℕ) (x : List ℕ) (n : ℕ) → AreBytes x → interleaved_at b m x n < 256
interleaved_small b m x n h = grind (arith, byte_at)

pub whole_small : (ps : List (List ℕ)) → ArePackets ps → (j : ℕ) → j < length (whole_groups ps)
    → get_or (whole_groups ps) j 0 < 256
unfolding whole_groups spread interleaved
whole_small ps h j l =
    let n : j < 828 * (length ps / 4) = omega (arith, l, length-whole ps) in
    subst (λ (x : ℕ). x < 256) (sym (grind (arith, get_or-take, get_or-map-range_with_len, length-coded)))
    (interleaved_small 52 4 (coded ps) j (bytes_coded 0 ps h))

-- ---- words

from_spread : (ps : List (List ℕ)) (k : ℕ) → IsComplete 207 52 4 (length (coded ps)) k
    → word_at 207 52 4 (spread ps) k ≡ take 207 (drop (207 * k) (coded ps))
unfolding spread
from_spread ps k c = word_back 207 52 4 (coded ps) (spread ps) k (lit< tt) (λ p l. refl) c

pub word_is : (ps : List (List ℕ)) (k : ℕ) → k < length ps → IsComplete 207 52 4 (828 * (length ps / 4)) k
    → word_at 207 52 4 (whole_groups ps) k ≡ codeword_at ps k
unfolding whole_groups codeword_at
word_is ps k l c =
    let plus : 0 + k ≡ k = omega arith in
    let all : IsComplete 207 52 4 (length (coded ps)) k = λ j m. omega (arith, c j m, length-coded 0 ps) in
    sym (grind (arith, word_stays, length-whole))
    ∙ ap (λ y. word_at 207 52 4 y k) (take-append-drop (828 * (length ps / 4)) (spread ps)) ∙ from_spread ps k all
    ∙ coded_at 0 ps k l ∙ ap (λ i. codeword 207 187 (randomized i (get_or ps k []))) plus

-- ---- packets

pub packet_at : (ps : List (List ℕ)) (k : ℕ) → ArePackets ps → k < length ps
    → (length (get_or ps k []) ≡ 188) × AreBytes (get_or ps k [])
packet_at [] k h l = absurd (omega arith)
packet_at (p ∷ ps) zero h l = h.0
packet_at (p ∷ ps) (suc k) h l = packet_at ps k h.1 (omega arith)

own_coded : (ps : List (List ℕ)) (k : ℕ) → ArePackets ps → k < length ps
    → codeword_at ps k ≡ coded_by 207 187 randomizer_bytes (187 * (k % 312)) (drop 1 (get_or ps k []))
unfolding codeword_at
own_coded ps k h l = coded_is_own k (get_or ps k []) (packet_at ps k h l).0

own_data : (ps : List (List ℕ)) (k : ℕ) → ArePackets ps → k < length ps
    → AreData 207 187 randomizer_bytes (drop 1 (get_or ps k []))
own_data ps k h l = let own = packet_at ps k h l in sound (get_or ps k []) own.0 own.1

pub own_codeword : (ps : List (List ℕ)) (k : ℕ) → ArePackets ps → k < length ps → IsCodeword 207 187 (codeword_at ps k)
unfolding codeword_at
own_codeword ps k h l = let own = packet_at ps k h l in is_codeword k (get_or ps k []) own.0 own.1

-- the codeword of packet f + j, where a field begins with packet f, gives that packet back, whatever word it was found
-- for
pub codeword_back : (ps : List (List ℕ)) (f j : ℕ) (word : List ℕ) → ArePackets ps → f % 312 ≡ 0 → f + j < length ps
    → ◌≡◌ {A = Received} (record {
      packet = record { 0 = packet_bytes (187 * (j % 312)) (codeword_at ps (f + j)) };
      fixed = distance word (codeword_at ps (f + j));
      good = true;
    }) (as_corrected ps (f + j) word)
unfolding as_corrected as_received
codeword_back ps f j word h z l =
    let place : j % 312 ≡ (f + j) % 312 = omega (arith, z) in
    ap (λ (d : List ℕ). record {
      packet = record { 0 = 0x47 ∷ d };
      fixed = distance word (codeword_at ps (f + j));
      good = true;
    }) (ap₂ (λ (i : ℕ) (c : List ℕ). whitened randomizer_bytes (187 * i) (take 187 c)) place (own_coded ps (f + j) h l)
    ∙ coded_back 207 187 randomizer_bytes (187 * ((f + j) % 312)) (drop 1 (get_or ps (f + j) []))
    (own_data ps (f + j) h l).long)

pub corrected_packet : (ps : List (List ℕ)) (k : ℕ) (word : List ℕ)
    → (as_corrected ps k word).packet.0 ≡ as_received (get_or ps k [])
unfolding as_corrected
corrected_packet ps k word = refl

-- a word near it
pub corrected_back : (ps : List (List ℕ)) (y : List ℕ) (f j : ℕ) → ArePackets ps → f % 312 ≡ 0 → f + j < length ps
    → IsNear ps (f + j) (word_at 207 52 4 y j) → received_at y j ≡ as_corrected ps (f + j) (word_at 207 52 4 y j)
unfolding received_at
corrected_back ps y f j h z l n = grind (arith, near_corrected, own_data, length-word, own_coded, codeword_back)

pub packet_back : (ps : List (List ℕ)) (k : ℕ) → ArePackets ps → k < length ps
    → IsComplete 207 52 4 (828 * (length ps / 4)) k → received_at (whole_groups ps) k ≡ as_sent ps k
unfolding as_sent as_corrected
packet_back ps k h l c = corrected_back ps (whole_groups ps) 0 k h refl (omega (arith, l)) (omega (arith, far))
    ∙ ap₂ (λ (i n : ℕ). record { packet = record { 0 = as_received (get_or ps i []) }; fixed = n; good = true })
    (zero-add k) far
  where
    far : distance (word_at 207 52 4 (whole_groups ps) k) (codeword_at ps (0 + k)) ≡ 0
    far = ap₂ distance (word_is ps k l c) (ap (codeword_at ps) (zero-add k))
        ∙ distance_self (codeword_at ps k)

-- ---- and the other way round

-- a word whose correction gives the packet's bytes back is near
near_by : (ps : List (List ℕ)) (k from : ℕ) (word : List ℕ) (found : Option (List ℕ)) → ArePackets ps → k < length ps
    → from ≡ 187 * (k % 312) → correction 207 187 word ≡ found → (received_by from word found).good ≡ true
    → (received_by from word found).packet.0 ≡ as_received (get_or ps k []) → IsNear ps k word
unfolding as_received codeword_at
near_by ps k from word None p l at is good same = cc
near_by ps k from word (Some code) p l at is good same =
    let own = packet_at ps k p l in
    let back : whitened randomizer_bytes (187 * (k % 312)) (take 187 code) ≡ drop 1 (get_or ps k []) = grind arith in
    let near = (near_if_corrected 207 187 randomizer_bytes (187 * (k % 312)) (drop 1 (get_or ps k [])) word code
    (sound (get_or ps k []) own.0 own.1) is back).1 in
    omega (arith, near, ap (distance word) (coded_is_own k (get_or ps k []) own.0))

pub near_if_back : (ps : List (List ℕ)) (y : List ℕ) (f j : ℕ) → ArePackets ps → f % 312 ≡ 0 → f + j < length ps
    → (received_at y j).good ≡ true → (received_at y j).packet.0 ≡ as_received (get_or ps (f + j) [])
    → IsNear ps (f + j) (word_at 207 52 4 y j)
unfolding received_at
near_if_back ps y f j p z l good same = grind (arith, near_by)
