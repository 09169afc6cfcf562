-- The packets of slightly damaged segments are those that were sent.
use Rattle.std.proofs.Common.{◌≡◌, ℕ, ℤ, zero, suc, ◌+◌, ◌-◌, ◌*◌, ◌/◌, ◌<◌, ◌≤◌, true, List, [], ◌∷◌, length, map}
use Rattle.std.proofs.Common.{drop, get_or, refl, ap, ap₂, ◌∙◌, arith}
use Rattle.std.specs.List.{range_with_len, flat_map, filter, list_all}
use Rattle.std.proofs.lemmas.List.{append-nil, length-append, length-drop, get_or-drop}
use Rattle.std.proofs.lemmas.Simd.{map-map}
use Rattle.std.proofs.lemmas.List.FromFn.{length-map-range_with_len}
use Rattle.dtx_outer.specs.Inner.{IsComplete}
use Rattle.dtx_slice.specs.Unrolled.{level_groups, bytes_back}
use Rattle.dtx_coder.specs.Stream.{a53}
use Rattle.dtx_coder.proofs.CountsLemmas.{length-a53}
use Rattle.dtx_receiver.specs.Bytes.{data_count, data_at, groups_of, levels_from, levels_in, bytes_in}
use Rattle.dtx_receiver.specs.Packets.{is_complete, run_packets, all_packets, received}
use Rattle.dtx_receiver.specs.declared.batch.Received.{Received}
use Rattle.dtx_receiver.proofs.CompleteLemmas.{complete_told}
use Rattle.dtx_receiver.proofs.SegmentsLemmas.{segment_long}
use Rattle.dtx_chain.specs.Damage.{ArePackets, as_received, as_corrected, AreReceived, IsSlight, to_sync, from_sync}
use Rattle.dtx_chain.specs.Damage.{packet_behind, numbers_in, word_in}
use Rattle.dtx_chain.proofs.SlightLemmas.{sent_within, sync_first, field_begins, one_run_left}
use Rattle.dtx_chain.proofs.UndamagedLemmas.{map-filter_same}
use Rattle.dtx_chain.proofs.WordsLemmas.{corrected_back}

-- ---- how many bytes a run has

length-levels : (f : ℕ → List ℕ) (a n : ℕ) → ((i : ℕ) → a ≤ i → i < a + n → length (f i) ≡ 828)
    → length (flat_map f (range_with_len a n)) ≡ 828 * n
length-levels f a zero h = refl
length-levels f a (suc n) h = length-append (f a) (flat_map f (range_with_len (a + 1) n))
    ∙ ap₂ (λ (x y : ℕ). x + y) (h a (omega arith) (omega arith))
    (length-levels f (a + 1) n (λ i l m. h i (omega arith) (omega arith)))
    ∙ more n
  where
    more : (n : ℕ) → 828 + 828 * n ≡ 828 * suc n
    more n = omega arith

-- data segment d of a run stands in it
pub data_within : (l d : ℕ) → d < 0 + 4 * ((l - (l + 312) / 313) / 4) → d + d / 312 + 1 < l
data_within l d h = omega arith

run_levels : (run : List (List ℤ)) → ((i : ℕ) → i < length run → length (get_or run i []) ≡ 832)
    → length (levels_in run) ≡ 828 * (4 * groups_of run)
unfolding levels_in levels_from data_at groups_of data_count
run_levels run h = grind (arith, length-levels, segment_long, data_within)

run_bytes : (run : List (List ℤ)) → ((i : ℕ) → i < length run → length (get_or run i []) ≡ 832)
    → length (bytes_in run) ≡ 828 * groups_of run
unfolding bytes_in bytes_back level_groups
run_bytes run h = grind (arith, length-map-range_with_len, run_levels)

-- ---- the run of the segments

run_long : (ps : List (List ℕ)) (first : ℕ) (sent got : List (List ℤ)) → AreReceived ps first sent got → (i : ℕ)
    → i < length (from_sync first got) → length (get_or (from_sync first got) i []) ≡ 832
unfolding from_sync
run_long ps first sent got r i l = grind (arith, get_or-drop, length-drop)

-- the data segments of whole fields and of what follows them, and of all segments of u groups
pub data_before : (q l n : ℕ) → 313 * q + n ≤ l → 312 * q + (n - (n + 312) / 313) ≤ l - (l + 312) / 313
data_before q l n a = omega arith

pub data_all : (l u : ℕ) → l ≡ 4 * u + (u + 77) / 78 → l - (l + 312) / 313 ≡ 4 * u
data_all l u e = omega arith

-- the packets of the run are packets of the stream
count_within : (q l n g j : ℕ) → 313 * q + n ≤ l → l ≡ 4 * (g / 4) + (g / 4 + 77) / 78
    → j < 4 * ((n - (n + 312) / 313) / 4) → 312 * q + j < g
count_within q l n g j a e h = grind (arith, data_before, data_all)

number_within : (ps : List (List ℕ)) (first : ℕ) (sent got : List (List ℤ)) → AreReceived ps first sent got
    → to_sync first < length sent → (j : ℕ) → j < 4 * groups_of (from_sync first got)
    → packet_behind first + j < length ps
unfolding packet_behind groups_of data_count from_sync
number_within ps first sent got r l j m =
    count_within ((first + to_sync first) / 313) (length (a53 ps)) (length (drop (to_sync first) got)) (length ps) j
    (grind (arith, sent_within, sync_first, length-drop)) (length-a53 ps) m

-- ---- its packets

-- of any way from words to packets that gives those of the stream back
pub run_back : (ps : List (List ℕ)) (first : ℕ) (sent got : List (List ℤ)) (at : ℕ → Received)
    → AreReceived ps first sent got → to_sync first < length sent
    → ((j : ℕ) → packet_behind first + j < length ps → IsComplete 207 52 4 (828 * groups_of (from_sync first got)) j
    → at j ≡ as_corrected ps (packet_behind first + j) (word_in first got j))
    → map at (filter (is_complete (length (bytes_in (from_sync first got))))
    (range_with_len 0 (length (bytes_in (from_sync first got)) / 207)))
    ≡ map (λ j. as_corrected ps (packet_behind first + j) (word_in first got j)) (numbers_in (from_sync first got))
unfolding numbers_in
run_back ps first sent got at r l h = grind (arith, run_bytes, run_long, map-filter_same, number_within, complete_told)

from_run : (ps : List (List ℕ)) (first : ℕ) (sent got : List (List ℤ)) → AreReceived ps first sent got
    → to_sync first < length sent → IsSlight ps first sent got → ArePackets ps
    → run_packets (bytes_in (from_sync first got))
    ≡ map (λ j. as_corrected ps (packet_behind first + j) (word_in first got j)) (numbers_in (from_sync first got))
unfolding run_packets word_in
from_run ps first sent got r l h p = grind (arith, run_back, corrected_back, field_begins)

pub all_good : (ps : List (List ℕ)) (first : ℕ) (sent got : List (List ℤ)) → AreReceived ps first sent got
    → to_sync first < length sent → IsSlight ps first sent got → ArePackets ps
    → all_packets got ≡ map (λ j. as_corrected ps (packet_behind first + j) (word_in first got j))
    (numbers_in (from_sync first got))
unfolding all_packets
all_good ps first sent got r l h p = grind (arith, one_run_left, append-nil, from_run)

pub corrected_bytes : (ps : List (List ℕ)) (f : ℕ) (word : ℕ → List ℕ) (js : List ℕ)
    → map (λ (r : Received). r.packet.0) (map (λ j. as_corrected ps (f + j) (word j)) js)
    ≡ map (λ j. as_received (get_or ps (f + j) [])) js
unfolding as_corrected
corrected_bytes ps f word js = map-map (λ (r : Received). r.packet.0) (λ j. as_corrected ps (f + j) (word j)) js

pub all_back : (ps : List (List ℕ)) (first : ℕ) (sent got : List (List ℤ)) → AreReceived ps first sent got
    → to_sync first < length sent → IsSlight ps first sent got → ArePackets ps
    → received got ≡ map (λ j. as_received (get_or ps (packet_behind first + j) [])) (numbers_in (from_sync first got))
unfolding received
all_back ps first sent got r l h p = ap (map (λ (r : Received). r.packet.0)) (all_good ps first sent got r l h p)
    ∙ corrected_bytes ps (packet_behind first) (word_in first got) (numbers_in (from_sync first got))

pub corrected_good : (ps : List (List ℕ)) (f : ℕ) (word : ℕ → List ℕ) (js : List ℕ)
    → list_all (λ (r : Received). r.good) (map (λ j. as_corrected ps (f + j) (word j)) js) ≡ true
unfolding as_corrected
corrected_good ps f word [] = refl
corrected_good ps f word (j ∷ js) = corrected_good ps f word js

pub none_flagged : (ps : List (List ℕ)) (first : ℕ) (sent got : List (List ℤ)) → AreReceived ps first sent got
    → to_sync first < length sent → IsSlight ps first sent got → ArePackets ps
    → list_all (λ (r : Received). r.good) (all_packets got) ≡ true
none_flagged ps first sent got r l h p = ap (list_all (λ (r : Received). r.good)) (all_good ps first sent got r l h p)
    ∙ corrected_good ps (packet_behind first) (word_in first got) (numbers_in (from_sync first got))
