-- Lemmas of what `mend` gives back of a stream's symbols of which some are missing and some are damaged.
use Rattle.std.proofs.Common.{◌≡◌, ℕ, ℤ, ◌+◌, ◌*◌, ◌%◌, ◌<◌, ◌≤◌, Bool, Some, List, [], ◌∷◌, ◌++◌, length, map, take}
use Rattle.std.proofs.Common.{get_or, refl, sym, ap, ◌∙◌, subst, arith}
use Rattle.std.specs.Prelude.{slice_get}
use Rattle.std.specs.List.{All, flat_map, sum_by}
use Rattle.std.proofs.lemmas.List.{append-nil, length-map, map-append, take_at}
use Rattle.std.proofs.lemmas.List.Elements.{All-map, All-take}
use Rattle.std.proofs.lemmas.List.Folds.{flat_map-map}
use Rattle.std.proofs.lemmas.List.Sums.{sum_by-cons}
use Rattle.std.proofs.lemmas.Option.{slice_get-map}
use Rattle.dtx_laws.specs.Codeword.{distance}
use Rattle.dtx_erase.proofs.ChosenLemmas.{mending_is}
use Rattle.dtx_erase.specs.Marks.{marks_in}
use Rattle.dtx_erase.specs.Mended.{all_mended, marks_at, mended, mended_at, mended_run, mended_run_packets}
use Rattle.dtx_erase.specs.Mended.{mended_so_far, mending}
use Rattle.dtx_erase.proofs.UnmarkedLemmas.{as_many, as_many_so_far, mended_packet}
use Rattle.dtx_outer.specs.Inner.{word_at}
use Rattle.dtx_outer.proofs.WordsLemmas.{length-word}
use Rattle.dtx_packets.specs.Packets.{packets_of}
use Rattle.dtx_receiver.specs.Bytes.{bytes_in}
use Rattle.dtx_receiver.specs.Intervals.{AreRuns, segments_in}
use Rattle.dtx_receiver.specs.Packets.{all_packets, packets_so_far, received}
use Rattle.dtx_receiver.specs.Runs.{runs}
use Rattle.dtx_receiver.specs.declared.batch.Received.{Received}
use Rattle.dtx_chain.proofs.AllBackLemmas.{corrected_bytes, run_back}
use Rattle.dtx_chain.specs.Damage.{AreReceived, as_corrected, codeword_at, from_sync, numbers_in, packet_behind}
use Rattle.dtx_chain.specs.Damage.{to_sync, word_in, ArePackets, as_received}
use Rattle.dtx_chain.proofs.NumbersLemmas.{number_of}
use Rattle.dtx_chain.proofs.ReceivedLemmas.{IsWhole, by_word, each_whole, runs_whole, all_whole as all_received_whole}
use Rattle.dtx_chain.proofs.RunsLemmas.{by_run, middle_at}
use Rattle.dtx_chain.proofs.SlightLemmas.{field_begins, one_run_left}
use Rattle.dtx_chain.proofs.WordsLemmas.{codeword_back, corrected_packet, own_codeword}
use Rattle.dtx_engine.specs.Recipe.{meaning_of_file}
use Rattle.dtx_forms.specs.Shapes.{segments}
use Rattle.dtx_forms.proofs.FilePacketsLemmas.{IsLong}
use Rattle.dtx_packet_jobs.proofs.PacketFileLemmas.{length-bytes_of_packets, packets_of-bytes}
use Rattle.dtx_jobs.proofs.GivenLemmas.{all_given, sync_answered}
use Rattle.dtx_recipes.specs.Giving.{Giving, IsGiving, answer_of, bytes_of}
use Rattle.dtx_jobs.proofs.GivingLemmas.{flat_bytes}
use Rattle.dtx_recipes.specs.Mend.{mending_symbols, with_mendings}
use Rattle.dtx_recipes.proofs.MendLemmas.{mendings_given}
use Rattle.dtx_recipes.specs.MendedBack.{CanAllBeMended, CanBeMended, IsMendedBack, all_back_of, mended_bytes}
use Rattle.dtx_recipes.specs.MendedBack.{mended_of, IsMendable, packets_before, word_marks, word_of}
use Rattle.dtx_recipes.specs.Receive.{received_bytes, with_corrections}
use Rattle.dtx_recipes.proofs.ReceiveLemmas.{corrections_given}
use Rattle.dtx_recipes.specs.SymbolFile.{file_segments, whole_segments}
use Rattle.dtx_jobs.proofs.SymbolFileLemmas.{length-segments_of}
use Rattle.dtx_recipes.specs.Tally.{fixed_in, flagged_in}

-- ---- the packets that are written

mended_whole : (bytes : List ℕ) (marks : List Bool) (k : ℕ) → IsWhole (mended_at bytes marks k)
unfolding mended_at
mended_whole bytes marks k = by_word (187 * (k % 312)) (word_at 207 52 4 bytes k)
    (mending 207 187 (marks_at marks k) (word_at 207 52 4 bytes k)) (length-word 207 52 4 bytes k)
    (λ code is. (mending_is 207 187 (marks_at marks k) (word_at 207 52 4 bytes k) code is).codeword.long)

run_whole : (run : List (List ℤ)) → All IsWhole (mended_run run)
unfolding mended_run_packets
run_whole run = grind (arith, each_whole, mended_whole)

-- each has 188 bytes
all_whole : (list : List (List ℤ)) → All IsLong (mended list)
unfolding mended all_mended
all_whole list = All-map IsLong (λ (r : Received). r.packet.0) (all_mended list) (grind (arith, runs_whole, run_whole))

-- and they are read back from the file that is written
pub packets_read : (file : List ℕ) → packets_of (mended_bytes file) ≡ mended (file_segments file)
packets_read file = packets_of-bytes (mended (file_segments file)) (all_whole (file_segments file))

-- a file with no more segments than are received
pub all_mended_of : (names : List (List ℕ)) (file : List ℕ) → whole_segments file ≤ 626000000
    → meaning_of_file segments mending_symbols names file ≡ mended_of names file
all_mended_of = all_given with_mendings mendings_given

mended_count : (list : List (List ℤ)) → length (mended list) ≡ length (all_mended list)
unfolding mended
mended_count list = length-map (all_mended list) (λ (r : Received). r.packet.0)

received_count : (list : List (List ℤ)) → length (received list) ≡ length (all_packets list)
unfolding received
received_count list = length-map (all_packets list) (λ (r : Received). r.packet.0)

-- as many bytes as `receive` writes
pub as_long : (file : List ℕ) → length (mended_bytes file) ≡ length (received_bytes file)
as_long file =
    grind (arith, length-bytes_of_packets, all_whole, mended_count, as_many, received_count, all_received_whole)

-- and as many while segments come
so_far_count : (giving : Giving) → IsGiving giving → (list : List (List ℤ)) → All IsLong (giving.packets list)
    → length (bytes_of (giving.so_far list)) ≡ 188 * length (giving.so_far list)
so_far_count giving is list long =
    let byte : Received → List ℕ = λ r. r.packet.0 in
    let early : List Received = giving.so_far list in
    let end = is.end list in
    let parts : giving.packets list ≡ map byte early ++ map byte end.0 = grind (arith, map-append) in
    ap length (sym (flat_bytes early))
    ∙ length-bytes_of_packets (map byte early) (subst (λ (ps : List (List ℕ)). All IsLong ps)
    (ap (take (length early)) parts ∙ take_at (map byte early) (map byte end.0) (length early) (length-map early byte))
    (All-take IsLong (length early) (giving.packets list) long)) ∙ ap (λ n. 188 * n) (length-map early byte)

pub as_long_so_far : (list : List (List ℤ))
    → length (bytes_of (mended_so_far list)) ≡ length (bytes_of (packets_so_far list))
as_long_so_far list = so_far_count with_mendings mendings_given list (all_whole list)
    ∙ ap (λ n. 188 * n) (as_many_so_far list)
    ∙ sym (so_far_count with_corrections corrections_given list (all_received_whole list))

-- ---- a packet of a run

-- word j of bytes with marks gives that packet of a stream
mendable_back : (stream : List (List ℕ)) (f j : ℕ) (run : List (List ℤ)) → ArePackets stream → f % 312 ≡ 0
    → f + j < length stream → IsMendable stream (f + j) (word_marks run j) (word_of run j)
    → mended_at (bytes_in run) (marks_in run) j ≡ as_corrected stream (f + j) (word_of run j)
mendable_back stream f j run packets begins within near = grind (arith, mended_packet, own_codeword, codeword_back)

good_at : (stream : List (List ℕ)) (got : List (List ℤ)) (earlier later : List (ℕ × ℕ)) (p : ℕ × ℕ) (f j : ℕ)
    → ArePackets stream → f % 312 ≡ 0 → f + j < length stream → AreRuns got 0 (earlier ++ p ∷ later)
    → CanBeMended stream (f + j) (segments_in got p) j → slice_get (all_mended got) (packets_before got earlier + j)
    ≡ Some (as_corrected stream (f + j) (word_of (segments_in got p) j))
unfolding all_mended mended_run_packets
good_at stream got earlier later p f j packets begins within are can =
    let run : List (List ℤ) = segments_in got p in
    ap (λ (rs : List Received). slice_get rs (packets_before got earlier + j))
    (by_run mended_run got earlier later p are)
    ∙ middle_at (flat_map (λ q. mended_run (segments_in got q)) earlier) (mended_run run)
    (flat_map (λ q. mended_run (segments_in got q)) later) j (as_corrected stream (f + j) (word_of run j))
    (λ other. grind (arith, number_of, mendable_back))

bytes_at : (list : List (List ℤ)) (place : ℕ) (r : Received) → slice_get (all_mended list) place ≡ Some r
    → slice_get (mended list) place ≡ Some r.packet.0
unfolding mended
bytes_at list place r here = grind (arith, slice_get-map)

pub packet_mended : (stream : List (List ℕ)) (file : List ℕ) (earlier later : List (ℕ × ℕ)) (p : ℕ × ℕ) (f j : ℕ)
    → ArePackets stream → f % 312 ≡ 0 → f + j < length stream → AreRuns (file_segments file) 0 (earlier ++ p ∷ later)
    → CanBeMended stream (f + j) (segments_in (file_segments file) p) j
    → IsMendedBack stream file (packets_before (file_segments file) earlier + j) (f + j)
    (word_of (segments_in (file_segments file) p) j)
packet_mended stream file earlier later p f j packets begins within are can =
    let got : List (List ℤ) = file_segments file in
    let word : List ℕ = word_of (segments_in got p) j in
    let place : ℕ = packets_before got earlier + j in
    let here = good_at stream got earlier later p f j packets begins within are can in
    record {
      packet = ap (λ (ps : List (List ℕ)). slice_get ps place) (packets_read file)
          ∙ bytes_at got place (as_corrected stream (f + j) word) here
          ∙ ap Some (corrected_packet stream (f + j) word);
      good = here;
    }

-- ---- all of a stretch

-- the packets of the one run
all_corrected : (stream : List (List ℕ)) (first : ℕ) (sent got : List (List ℤ)) → ArePackets stream
    → AreReceived stream first sent got → to_sync first < length sent → CanAllBeMended stream first sent got
    → all_mended got ≡ map (λ j. as_corrected stream (packet_behind first + j) (word_in first got j))
    (numbers_in (from_sync first got))
unfolding all_mended mended_run_packets word_in
all_corrected stream first sent got packets received some can =
    grind (arith, one_run_left, append-nil, run_back, mendable_back, field_begins)

-- how many bytes were put right in packets that come back, and that none is flagged
pub all_fixed : (stream : List (List ℕ)) (f : ℕ) (word : ℕ → List ℕ) (js : List ℕ)
    → fixed_in (map (λ j. as_corrected stream (f + j) (word j)) js)
    ≡ sum_by (λ j. distance (word j) (codeword_at stream (f + j))) js
unfolding as_corrected
all_fixed stream f word [] = refl
all_fixed stream f word (j ∷ js) = sum_by-cons (λ (r : Received). r.fixed) (as_corrected stream (f + j) (word j))
    (map (λ i. as_corrected stream (f + i) (word i)) js)
    ∙ ap (λ n. distance (word j) (codeword_at stream (f + j)) + n) (all_fixed stream f word js)
    ∙ sym (sum_by-cons (λ i. distance (word i) (codeword_at stream (f + i))) j js)

pub none_flagged : (stream : List (List ℕ)) (f : ℕ) (word : ℕ → List ℕ) (js : List ℕ)
    → flagged_in (map (λ j. as_corrected stream (f + j) (word j)) js) ≡ 0
unfolding as_corrected
none_flagged stream f word [] = refl
none_flagged stream f word (j ∷ js) = none_flagged stream f word js

answered : (stream : List (List ℕ)) (first : ℕ) (sent : List (List ℤ)) (file : List ℕ) → ArePackets stream
    → AreReceived stream first sent (file_segments file) → to_sync first < length sent
    → CanAllBeMended stream first sent (file_segments file) → (names : List (List ℕ))
    → answer_of with_mendings (file_segments file) (length file % 832) ≡ (all_back_of names stream first file).outcome
answered stream first sent file packets received some can names =
    let got : List (List ℤ) = file_segments file in
    let js : List ℕ = numbers_in (from_sync first got) in
    let f : ℕ = packet_behind first in
    let back : List Received = map (λ j. as_corrected stream (f + j) (word_in first got j)) js in
    let one : length (runs got) ≡ 1 = ap length (one_run_left stream first sent got received some can.found) in
    let count : length back ≡ length js = length-map js (λ j. as_corrected stream (f + j) (word_in first got j)) in
    sync_answered with_mendings got (length file % 832) (λ e. omega (arith, e, one)) ∙ rw (
      (all_corrected stream first sent got packets received some can),
      one,
      length-segments_of file,
      count,
      all_fixed stream f (word_in first got) js,
      none_flagged stream f (word_in first got) js,
    ) refl

written : (stream : List (List ℕ)) (first : ℕ) (sent got : List (List ℤ)) → ArePackets stream
    → AreReceived stream first sent got → to_sync first < length sent → CanAllBeMended stream first sent got
    → flat_map (λ (p : List ℕ). p) (mended got)
    ≡ flat_map (λ j. as_received (get_or stream (packet_behind first + j) [])) (numbers_in (from_sync first got))
unfolding mended
written stream first sent got packets received some can =
    let js : List ℕ = numbers_in (from_sync first got) in
    ap (flat_map (λ (p : List ℕ). p)) (ap (map (λ (r : Received). r.packet.0))
    (all_corrected stream first sent got packets received some can)
    ∙ corrected_bytes stream (packet_behind first) (word_in first got) js)
    ∙ flat_map-map (λ (p : List ℕ). p) (λ j. as_received (get_or stream (packet_behind first + j) [])) js

pub all_mended_back : (names stream : List (List ℕ)) (first : ℕ) (sent : List (List ℤ)) (file : List ℕ)
    → whole_segments file ≤ 626000000 → ArePackets stream → AreReceived stream first sent (file_segments file)
    → to_sync first < length sent → CanAllBeMended stream first sent (file_segments file)
    → meaning_of_file segments mending_symbols names file ≡ all_back_of names stream first file
all_mended_back names stream first sent file few packets received some can =
    grind (arith, all_mended_of, answered, written)
