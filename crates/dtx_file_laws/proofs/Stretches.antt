-- What `receive` answers and writes of segments in a row of a stream that are received with slight damage.
use Rattle.std.proofs.Common.{◌≡◌, ℕ, ℤ, ◌+◌, ◌%◌, ◌<◌, ◌≤◌, List, [], ◌∷◌, length, map, get_or, refl, ap, ◌∙◌, arith}
use Rattle.std.specs.List.{flat_map}
use Rattle.std.proofs.lemmas.List.{length-map}
use Rattle.std.proofs.lemmas.List.Folds.{flat_map-map}
use Rattle.dtx_receiver.specs.Packets.{received}
use Rattle.dtx_receiver.specs.Runs.{runs}
use Rattle.dtx_receiver.specs.declared.batch.Received.{Received}
use Rattle.dtx_chain.proofs.AllBackLemmas.{all_back, all_good}
use Rattle.dtx_chain.specs.Damage.{AreReceived, IsSlight, as_corrected, from_sync, numbers_in, packet_behind, to_sync}
use Rattle.dtx_chain.specs.Damage.{word_in, ArePackets, as_received, as_sent}
use Rattle.dtx_chain.proofs.SlightLemmas.{one_run_left}
use Rattle.dtx_engine.specs.Recipe.{meaning_of_file}
use Rattle.dtx_forms.specs.Shapes.{segments}
use Rattle.dtx_jobs.proofs.GivenLemmas.{sync_answered}
use Rattle.dtx_recipes.specs.Giving.{answer_of}
use Rattle.dtx_recipes.specs.MendedBack.{all_back_of}
use Rattle.dtx_recipes.specs.Receive.{receiving, with_corrections}
use Rattle.dtx_jobs.proofs.ReceivedLemmas.{all_received}
use Rattle.dtx_recipes.specs.SymbolFile.{file_segments, whole_segments}
use Rattle.dtx_jobs.proofs.SymbolFileLemmas.{length-segments_of}
use Rattle.dtx_symbol_laws.proofs.MendedBackLemmas.{all_fixed, none_flagged}
use Rattle.dtx_recipes.specs.Tally.{fixed_in}

-- no byte was put right in packets that were sent
pub none_fixed : (packets : List (List ℕ)) (ks : List ℕ) → fixed_in (map (as_sent packets) ks) ≡ 0
unfolding as_sent
none_fixed packets [] = refl
none_fixed packets (k ∷ ks) = none_fixed packets ks

-- ---- what is answered, and what is written

answered : (stream : List (List ℕ)) (first : ℕ) (sent : List (List ℤ)) (file : List ℕ) → ArePackets stream
    → AreReceived stream first sent (file_segments file) → to_sync first < length sent
    → IsSlight stream first sent (file_segments file) → (names : List (List ℕ))
    → answer_of with_corrections (file_segments file) (length file % 832)
    ≡ (all_back_of names stream first file).outcome
answered stream first sent file packets received some slight names =
    let got : List (List ℤ) = file_segments file in
    let js : List ℕ = numbers_in (from_sync first got) in
    let f : ℕ = packet_behind first in
    let back : List Received = map (λ j. as_corrected stream (f + j) (word_in first got j)) js in
    let one : length (runs got) ≡ 1 = ap length (one_run_left stream first sent got received some slight.found) in
    let count : length back ≡ length js = length-map js (λ j. as_corrected stream (f + j) (word_in first got j)) in
    sync_answered with_corrections got (length file % 832) (λ e. omega (arith, e, one)) ∙ rw (
      (all_good stream first sent got received some slight packets),
      one,
      length-segments_of file,
      count,
      all_fixed stream f (word_in first got) js,
      none_flagged stream f (word_in first got) js,
    ) refl

written : (stream : List (List ℕ)) (first : ℕ) (sent got : List (List ℤ)) → ArePackets stream
    → AreReceived stream first sent got → to_sync first < length sent → IsSlight stream first sent got
    → flat_map (λ (p : List ℕ). p) (received got)
    ≡ flat_map (λ j. as_received (get_or stream (packet_behind first + j) [])) (numbers_in (from_sync first got))
written stream first sent got packets is some slight =
    ap (flat_map (λ (p : List ℕ). p)) (all_back stream first sent got is some slight packets)
    ∙ flat_map-map (λ (p : List ℕ). p) (λ j. as_received (get_or stream (packet_behind first + j) []))
    (numbers_in (from_sync first got))

pub all_received_back : (names stream : List (List ℕ)) (first : ℕ) (sent : List (List ℤ)) (file : List ℕ)
    → whole_segments file ≤ 626000000 → ArePackets stream → AreReceived stream first sent (file_segments file)
    → to_sync first < length sent → IsSlight stream first sent (file_segments file)
    → meaning_of_file segments receiving names file ≡ all_back_of names stream first file
all_received_back names stream first sent file few packets received some slight =
    grind (arith, all_received, answered, written)
