-- What is received of all segments of a stream, from its first one on.
use Rattle.std.proofs.Common.{◌≡◌, ℕ, ℤ, ◌+◌, ◌-◌, ◌*◌, ◌%◌, ◌<◌, ◌≤◌, List, [], ◌∷◌, ◌++◌, length, map, take}
use Rattle.std.proofs.Common.{drop, get_or, refl, sym, ap, ap₂, ◌∙◌, subst, arith}
use Rattle.std.specs.List.{flat_map, range_with_len}
use Rattle.std.proofs.lemmas.List.{length-drop, length-map, length-take-le, take_all}
use Rattle.std.proofs.lemmas.List.FromFn.{get_or-map-range_with_len, length-range_with_len}
use Rattle.dtx_chain.proofs.AllBackLemmas.{all_good}
use Rattle.dtx_chain.specs.Damage.{AreReceived, IsSlight, from_sync, numbers_in, packet_behind, to_sync, word_in}
use Rattle.dtx_chain.specs.Damage.{ArePackets, as_received, as_sent, whole_words}
use Rattle.dtx_chain.proofs.NoDamageLemmas.{is_slight}
use Rattle.dtx_coder.proofs.CountsLemmas.{length-a53}
use Rattle.dtx_coder.specs.Stream.{a53}
use Rattle.dtx_engine.specs.Made.{only, outputs_of}
use Rattle.dtx_engine.specs.Recipe.{meaning_of_file}
use Rattle.dtx_forms.specs.Shapes.{segments}
use Rattle.dtx_meaning.specs.Meaning.{Meaning}
use Rattle.dtx_meaning.specs.Status.{done}
use Rattle.dtx_receiver.specs.Packets.{all_packets}
use Rattle.dtx_recipes.specs.MendedBack.{all_back_of, put_right}
use Rattle.dtx_recipes.specs.Receive.{receiving}
use Rattle.dtx_jobs.proofs.StreamBackLemmas.{length-symbol_bytes, stream_read_back}
use Rattle.dtx_recipes.specs.SymbolFile.{file_segments, symbol_of_byte, whole_segments, symbol_bytes}
use Rattle.dtx_jobs.proofs.SymbolFileLemmas.{length-segments_of}
use Rattle.dtx_recipes.specs.Tally.{fixed_in}
use Rattle.dtx_file_laws.specs.Back.{all_back, back_of_all, packets_back}
use Rattle.dtx_file_laws.proofs.Counted.{bytes_back, numbers_are}
use Rattle.dtx_symbol_laws.proofs.MendedBackLemmas.{all_fixed}
use Rattle.dtx_file_laws.proofs.Stretches.{all_received_back, none_fixed}

-- ---- from the first segment on

pub no_segments : to_sync 0 ≡ 0
unfolding to_sync
no_segments = refl

first_packet : packet_behind 0 ≡ 0
unfolding packet_behind to_sync
first_packet = refl

pub all_from : (got : List (List ℤ)) → from_sync 0 got ≡ got
unfolding from_sync
all_from got = ap (λ n. drop n got) no_segments

-- a stream of at least one whole group has a field sync
pub some_segments : (packets : List (List ℕ)) → 4 ≤ length packets → to_sync 0 < length (a53 packets)
some_segments packets some = grind (arith, no_segments, length-a53)

-- ---- a file of as many bytes

pub as_many : (packets : List (List ℕ)) (file : List ℕ) → length file ≡ length (symbol_bytes packets)
    → length file ≡ 832 * length (a53 packets)
as_many packets file long = long ∙ length-symbol_bytes packets

pub count_segments : (packets : List (List ℕ)) (file : List ℕ) → length file ≡ length (symbol_bytes packets)
    → whole_segments file ≡ length (a53 packets)
count_segments packets file long = omega (arith, as_many packets file long)

pub few_segments : (packets : List (List ℕ)) (file : List ℕ) → length packets ≤ 624000000
    → length file ≡ length (symbol_bytes packets) → whole_segments file ≤ 626000000
few_segments packets file few long = omega (arith, count_segments packets file long, length-a53 packets, few)

pub whole_segment : (file : List ℕ) (i : ℕ) → i < length (file_segments file)
    → length (get_or (file_segments file) i []) ≡ 832
whole_segment file i l =
    let within : i < whole_segments file = omega (arith, l, length-segments_of file) in
    ap length (grind (arith, get_or-map-range_with_len)) ∙ length-map (take 832 (drop (832 * i) file)) symbol_of_byte
    ∙ length-take-le 832 (drop (832 * i) file) (omega (arith, within, length-drop (832 * i) file))

pub are_received : (packets : List (List ℕ)) (file : List ℕ) → length file ≡ length (symbol_bytes packets)
    → AreReceived packets 0 (a53 packets) (file_segments file)
are_received packets file long = grind (arith, take_all, as_many, length-segments_of, count_segments, whole_segment)

-- ---- what is answered and written of it

same_range : (f g : ℕ → List ℕ) (ks : List ℕ) → ((k : ℕ) → f k ≡ g k) → flat_map f ks ≡ flat_map g ks
same_range f g [] same = refl
same_range f g (k ∷ ks) same = ap₂ (λ (x y : List ℕ). x ++ y) (same k) (same_range f g ks same)

written : (packets : List (List ℕ)) (got : List (List ℤ)) → 4 ≤ length packets → length got ≡ length (a53 packets)
    → flat_map (λ j. as_received (get_or packets (packet_behind 0 + j) [])) (numbers_in (from_sync 0 got))
    ≡ packets_back packets
written packets got some long = ap (flat_map (λ j. as_received (get_or packets (packet_behind 0 + j) [])))
    (ap numbers_in (all_from got) ∙ numbers_are packets got some long)
    ∙ same_range (λ j. as_received (get_or packets (packet_behind 0 + j) [])) (λ k. as_received (get_or packets k []))
    (range_with_len 0 (back_of_all (length packets))) (λ k. grind (arith, first_packet)) ∙ bytes_back packets some

pub of_all : (names packets : List (List ℕ)) (file : List ℕ) → 4 ≤ length packets
    → length file ≡ length (symbol_bytes packets)
    → all_back_of names packets 0 file ≡ all_back names packets (put_right packets 0 (file_segments file))
of_all names packets file some long =
    let got : List (List ℤ) = file_segments file in
    let fixed : ℕ = put_right packets 0 got in
    let many : length got ≡ length (a53 packets) = length-segments_of file ∙ count_segments packets file long in
    let means : ℕ → ℕ → ℕ → List ℕ → Meaning = λ s p l bytes. record {
      outcome = done (s ∷ 1 ∷ p ∷ fixed ∷ 0 ∷ l ∷ []);
      outputs = outputs_of names (only bytes);
    } in
    let loose : length file % 832 ≡ 0 = omega (arith, as_many packets file long) in
    ap₂ (λ (s p : ℕ). means s p (length file % 832)
    (flat_map (λ j. as_received (get_or packets (packet_behind 0 + j) [])) (numbers_in (from_sync 0 got))))
    (count_segments packets file long) (ap length (ap numbers_in (all_from got) ∙ numbers_are packets got some many)
    ∙ length-range_with_len 0 (back_of_all (length packets)))
    ∙ ap₂ (means (length (a53 packets)) (back_of_all (length packets))) loose (written packets got some many)

-- of slight damage
pub near_back : (names packets : List (List ℕ)) (file : List ℕ) → ArePackets packets → 4 ≤ length packets
    → length packets ≤ 624000000 → length file ≡ length (symbol_bytes packets)
    → IsSlight packets 0 (a53 packets) (file_segments file) → meaning_of_file segments receiving names file
    ≡ all_back names packets (put_right packets 0 (file_segments file))
near_back names packets file are some few long slight =
    all_received_back names packets 0 (a53 packets) file (few_segments packets file few long) are
    (are_received packets file long) (some_segments packets some) slight
    ∙ of_all names packets file some long

-- of none
none_put_right : (packets : List (List ℕ)) → ArePackets packets → 4 ≤ length packets
    → all_packets (a53 packets) ≡ map (as_sent packets) (whole_words packets) → put_right packets 0 (a53 packets) ≡ 0
none_put_right packets are some good =
    let received = stream_received packets in
    sym (all_fixed packets (packet_behind 0) (word_in 0 (a53 packets)) (numbers_in (from_sync 0 (a53 packets))))
    ∙ ap fixed_in (sym (all_good packets 0 (a53 packets) (a53 packets) received (some_segments packets some)
    (is_slight packets 0 (a53 packets) received are) are) ∙ good)
    ∙ none_fixed packets (whole_words packets)
  where
    stream_received : (packets : List (List ℕ)) → AreReceived packets 0 (a53 packets) (a53 packets)
    stream_received packets = subst (AreReceived packets 0 (a53 packets)) (stream_read_back packets)
        (are_received packets (symbol_bytes packets) refl)

pub stream_back : (names packets : List (List ℕ)) → ArePackets packets → 4 ≤ length packets
    → length packets ≤ 624000000 → all_packets (a53 packets) ≡ map (as_sent packets) (whole_words packets)
    → meaning_of_file segments receiving names (symbol_bytes packets) ≡ all_back names packets 0
stream_back names packets are some few good =
    let read : a53 packets ≡ file_segments (symbol_bytes packets) = sym (stream_read_back packets) in
    let received = are_received packets (symbol_bytes packets) refl in
    near_back names packets (symbol_bytes packets) are some few refl
    (subst (IsSlight packets 0 (a53 packets)) read (is_slight packets 0 (a53 packets) (grind arith) are))
    ∙ ap (all_back names packets) (ap (put_right packets 0) (sym read) ∙ none_put_right packets are some good)
