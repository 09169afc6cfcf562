-- What is given back of a stretch of a feed.
use Rattle.std.proofs.Common.{ℕ, List, ◌+◌, ◌≡◌, ℤ, ◌*◌, ◌/◌, ◌%◌, ◌<◌, ◌≤◌, Some, ◌∷◌, ◌++◌, length, ap, ◌∙◌, arith}
use Rattle.std.proofs.Common.{slice_get, ◌-◌, [], map, drop, get_or, sym, ap₂, length-drop, length-take-le}
use Rattle.std.proofs.lemmas.Option.{slice_get-map}
use Rattle.dtx_exciter.specs.Lockstep.{segment_place}
use Rattle.dtx_chain.specs.Damage.{ArePackets, as_received, AreReceived, as_corrected, to_sync, from_sync}
use Rattle.dtx_chain.specs.Damage.{packet_behind, numbers_in}
use Rattle.dtx_chain.proofs.NoDamageLemmas.{part_received, is_slight}
use Rattle.dtx_network.specs.Headline.{last_packet, stretch_of}
use Rattle.dtx_network.specs.GivesBack.{IsReceivedAlone, BeginsField, to_field, word_of, CanBeGivenBack}
use Rattle.dtx_network.specs.GivesBack.{packets_of_runs, IsBack, GivesBack, next_field, GivesAllBack}
use Rattle.dtx_receiver.specs.Bytes.{bytes_in}
use Rattle.dtx_receiver.specs.Intervals.{AreRuns, segments_in}
use Rattle.dtx_receiver.specs.Packets.{received_at, run_packets, all_packets, received}
use Rattle.dtx_receiver.specs.declared.batch.Received.{Received}
use Rattle.dtx_chain.proofs.NumbersLemmas.{number_at}
use Rattle.dtx_chain.proofs.RunsLemmas.{by_run, middle_at}
use Rattle.dtx_chain.proofs.WordsLemmas.{corrected_back, corrected_packet}
use Rattle.dtx_coder.proofs.CountsLemmas.{length-a53}
use Rattle.dtx_chain.proofs.SlightLemmas.{one_run_left}
use Rattle.dtx_chain.proofs.AllBackLemmas.{all_back, none_flagged}

-- ---- a stretch that is received as it was sent

pub received_alone : (feed : List (List ℕ)) (k end : ℕ) → ArePackets feed
    → IsReceivedAlone feed k end (stretch_of feed k end)
unfolding stretch_of
received_alone feed k end p = grind (arith, part_received, is_slight)

-- ---- packets

-- a packet whose bytes lie in the stretch is one of the feed
packet_inside : (end f j : ℕ) → f + 4 * ((207 * j + 0 + 52 * 4 * ((207 * j + 0) % 52)) / 828) + 3 ≤ last_packet end
    → f + j < end
packet_inside end f j l = omega (arith, l)

pub back : (feed : List (List ℕ)) (k end s : ℕ) (got : List (List ℤ)) → ArePackets feed → end ≤ length feed
    → GivesBack feed k end s got
unfolding all_packets packets_of_runs received
back feed k end s got packets inside = λ f n j earlier later begins are readable. at f j (
  s + to_field k f,
  n,
) earlier later begins are readable
  where
    at : (f j : ℕ) (p : ℕ × ℕ) (earlier later : List (ℕ × ℕ)) → BeginsField k end f
        → AreRuns got 0 (earlier ++ p ∷ later) → CanBeGivenBack feed end f (segments_in got p) j
        → IsBack feed got (length (packets_of_runs got earlier) + j) (f + j) (word_of (segments_in got p) j)
    at f j p earlier later begins are readable =
        let bytes : List ℕ = bytes_in (segments_in got p) in
        let r : Received = as_corrected feed (f + j) (word_of (segments_in got p) j) in
        let l : f + j < length feed = omega (arith, inside, packet_inside end f j (readable.inside 0 (omega arith))) in
        let same : received_at bytes j ≡ r = corrected_back feed bytes f j packets begins.begins l readable.near in
        let place : ℕ = length (packets_of_runs got earlier) + j in
        let here : slice_get (all_packets got) place ≡ Some r = ap (λ (rs : List Received). slice_get rs place)
        (by_run (λ run. run_packets (bytes_in run)) got earlier later p are)
        ∙ middle_at (packets_of_runs got earlier) (run_packets bytes) (packets_of_runs got later) j r
        (λ other. number_at bytes j other readable.given ∙ same) in
        record {
          packet = grind (arith, slice_get-map, corrected_packet);
          good = here;
        }

-- ---- the stretch

pub length-stretch_of : (feed : List (List ℕ)) (k end : ℕ) → 4 ≤ end → end ≤ length feed
    → length (stretch_of feed k end) ≡ segment_place (last_packet end) + 1 - segment_place k
unfolding stretch_of
length-stretch_of feed k end some inside = grind (arith, length-take-le, length-drop, length-a53)

-- ---- its first field sync

turns : (k : ℕ) → k ≡ 312 * (k / 312) + k % 312
turns k = omega arith

below : (k : ℕ) → k % 312 < 312
below k = omega arith

to_sync_is : (k : ℕ) → to_sync (segment_place k) ≡ 312 - k % 312
unfolding to_sync
to_sync_is k = grind (arith, turns, below)

to_field_is : (k : ℕ) → to_field k (next_field k) ≡ 312 - k % 312
to_field_is k = grind (arith, turns, below)

-- ---- what is received

pub all_given_back : (feed : List (List ℕ)) (k end : ℕ) (got : List (List ℤ)) → ArePackets feed → end ≤ length feed
    → GivesAllBack feed k end got
unfolding from_sync stretch_of packet_behind
all_given_back feed k end got packets inside = λ begins alone.
    let some : 4 ≤ end = (let l = begins.inside in omega (arith, l)) in
    let r : AreReceived feed (segment_place k) (stretch_of feed k end) got = grind (arith, length-stretch_of) in
    let l : to_sync (segment_place k) < length (stretch_of feed k end) =
    grind (arith, to_sync_is, length-stretch_of, turns, below) in
    record {
      run = one_run_left feed (segment_place k) (stretch_of feed k end) got r l alone.slight.found
          ∙ ap (λ (n : ℕ). drop n got ∷ []) (to_sync_is k ∙ sym (to_field_is k));
      packets = all_back feed (segment_place k) (stretch_of feed k end) got r l alone.slight packets
          ∙ ap₂ (λ (f n : ℕ). map (λ j. as_received (get_or feed (f + j) [])) (numbers_in (drop n got)))
          (grind (arith, to_sync_is, turns, below)) (to_sync_is k ∙ sym (to_field_is k));
      good = none_flagged feed (segment_place k) (stretch_of feed k end) got r l alone.slight packets;
    }
