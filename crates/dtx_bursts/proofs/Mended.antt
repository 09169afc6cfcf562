-- Missing symbols in a row are mended.
use Rattle.std.proofs.Common.{◌≡◌, ℕ, ℤ, ◌+◌, ◌-◌, ◌*◌, ◌<◌, ◌≤◌, inl, inr, true, List, [], length, map, drop, get_or}
use Rattle.std.proofs.Common.{ap, ◌∙◌, arith}
use Rattle.std.specs.List.{flat_map, list_all}
use Rattle.std.proofs.lemmas.Bool.{cases_lt}
use Rattle.std.proofs.lemmas.List.{append-nil}
use Rattle.dtx_outer.specs.Inner.{IsComplete, word_at}
use Rattle.dtx_receiver.specs.Bytes.{groups_of, bytes_in}
use Rattle.dtx_receiver.specs.declared.batch.Received.{Received}
use Rattle.dtx_erase.specs.Marks.{marks_in}
use Rattle.dtx_erase.specs.Mended.{all_mended, marks_at, mended, mended_at, mended_run, mended_run_packets}
use Rattle.dtx_erase.specs.Mending.{lost, unmarked_distance}
use Rattle.dtx_erase.proofs.UnmarkedLemmas.{mended_packet}
use Rattle.dtx_chain.proofs.AllBackLemmas.{corrected_bytes, corrected_good, run_back}
use Rattle.dtx_chain.specs.Damage.{ArePackets, as_received, AreReceived, AreFound, as_corrected, codeword_at, from_sync}
use Rattle.dtx_chain.specs.Damage.{numbers_in, packet_behind, to_sync, word_in}
use Rattle.dtx_chain.proofs.SlightLemmas.{field_begins, one_run_left}
use Rattle.dtx_chain.proofs.WordsLemmas.{codeword_back, own_codeword}
use Rattle.dtx_bursts.specs.Burst.{IsBurst, IsGap}
use Rattle.dtx_bursts.proofs.Missing.{few_lost, none_wrong}
use Rattle.dtx_bursts.proofs.Moved.{alike_moved, missing_moved, no_word, sent_word}

-- a gap is a burst
pub gap_is_burst : (count from : ℕ) (sent got : List (List ℤ)) → IsGap count from sent got → IsBurst count from sent got
gap_is_burst count from sent got gap = grind arith

-- word j of a run differs from the codeword of packet k of a stream in no unmarked byte, and at most 20 are marked
abbrev IsMissing : List (List ℕ) → ℕ → List (List ℤ) → ℕ → Type 0
IsMissing packets k run j =
    (unmarked_distance (marks_at (marks_in run) j) (word_at 207 52 4 (bytes_in run) j) (codeword_at packets k) ≡ 0)
    × (lost (marks_at (marks_in run) j) ≤ 20)

-- it differs from it in e unmarked bytes, where f are marked, and 2 * e + f is at most 20
abbrev IsMendable : List (List ℕ) → ℕ → List (List ℤ) → ℕ → Type 0
IsMendable packets k run j =
    2 * unmarked_distance (marks_at (marks_in run) j) (word_at 207 52 4 (bytes_in run) j) (codeword_at packets k)
    + lost (marks_at (marks_in run) j) ≤ 20

missing_behind : (ps : List (List ℕ)) (first from j : ℕ) (sent got : List (List ℤ)) → AreReceived ps first sent got
    → ArePackets ps → IsGap 4141 from sent got → to_sync first < length sent
    → IsComplete 207 52 4 (828 * groups_of (from_sync first got)) j
    → IsMissing ps (packet_behind first + j) (from_sync first got) j
unfolding from_sync
missing_behind ps first from j sent got r p gap l c = (
  rw (← sent_word ps first j sent got r p l c)
      (none_wrong (drop (to_sync first) got) (drop (to_sync first) sent) 4141 (from - 832 * to_sync first) j
      (alike_moved ps first (to_sync first) sent got r l)
      (missing_moved (to_sync first) 4141 from sent got r.as_many gap)
      c),
  few_lost (drop (to_sync first) got) (drop (to_sync first) sent) (from - 832 * to_sync first) j
      (alike_moved ps first (to_sync first) sent got r l)
      (missing_moved (to_sync first) 4141 from sent got r.as_many gap)
      c,
)

pub gap_missing : (ps : List (List ℕ)) (first from : ℕ) (sent got : List (List ℤ)) → AreReceived ps first sent got
    → ArePackets ps → IsGap 4141 from sent got → (j : ℕ) → IsComplete 207 52 4 (828 * groups_of (from_sync first got)) j
    → IsMissing ps (packet_behind first + j) (from_sync first got) j
gap_missing ps first from sent got r p gap j c = elim (cases_lt (to_sync first) (length sent)) [
  | inl l ↦ missing_behind ps first from j sent got r p gap l c
  | inr l ↦ absurd (no_word first got j (omega (arith, l, r.as_many)) c)
]

gap_mendable : (ps : List (List ℕ)) (first from : ℕ) (sent got : List (List ℤ)) → AreReceived ps first sent got
    → ArePackets ps → IsGap 4141 from sent got → (j : ℕ) → IsComplete 207 52 4 (828 * groups_of (from_sync first got)) j
    → IsMendable ps (packet_behind first + j) (from_sync first got) j
gap_mendable ps first from sent got r p gap j c = grind (arith, gap_missing)

-- ---- the packets

pub all_good : (ps : List (List ℕ)) (first from : ℕ) (sent got : List (List ℤ)) → AreReceived ps first sent got
    → ArePackets ps → to_sync first < length sent → AreFound first sent got → IsGap 4141 from sent got
    → all_mended got ≡ map (λ j. as_corrected ps (packet_behind first + j) (word_in first got j))
    (numbers_in (from_sync first got))
unfolding all_mended mended_run_packets word_in
all_good ps first from sent got r p some found gap =
    let run : List (List ℤ) = from_sync first got in
    ap (flat_map mended_run) (one_run_left ps first sent got r some found)
    ∙ append-nil (mended_run run)
    ∙ run_back ps first sent got (mended_at (bytes_in run) (marks_in run)) r some
    (λ j within complete. mended_packet (bytes_in run) (marks_in run) j (codeword_at ps (packet_behind first + j))
    (own_codeword ps (packet_behind first + j) p within) (gap_mendable ps first from sent got r p gap j complete)
    ∙ codeword_back ps (packet_behind first) j (word_at 207 52 4 (bytes_in run) j) p (field_begins first) within)

pub all_back : (ps : List (List ℕ)) (first from : ℕ) (sent got : List (List ℤ)) → AreReceived ps first sent got
    → ArePackets ps → to_sync first < length sent → AreFound first sent got → IsGap 4141 from sent got
    → mended got ≡ map (λ j. as_received (get_or ps (packet_behind first + j) [])) (numbers_in (from_sync first got))
unfolding mended
all_back ps first from sent got r p some found gap = ap (map (λ (r : Received). r.packet.0)) (grind (arith, all_good))
    ∙ corrected_bytes ps (packet_behind first) (word_in first got) (numbers_in (from_sync first got))

pub none_flagged : (ps : List (List ℕ)) (first from : ℕ) (sent got : List (List ℤ)) → AreReceived ps first sent got
    → ArePackets ps → to_sync first < length sent → AreFound first sent got → IsGap 4141 from sent got
    → list_all (λ (r : Received). r.good) (all_mended got) ≡ true
none_flagged ps first from sent got r p some found gap =
    ap (list_all (λ (r : Received). r.good)) (all_good ps first from sent got r p some found gap)
    ∙ corrected_good ps (packet_behind first) (word_in first got) (numbers_in (from_sync first got))
