-- Which packets a receiver gives back of a feed's stretch, from its segments as received, damaged or not (the profile's
-- own; what is sent is that of ATSC A/53 Part 2). A packet is its list of 188 bytes, a segment the list of its 832
-- symbols.
use Rattle.std.specs.Prelude.{ℕ, ℤ, ◌≡◌, ◌+◌, ◌-◌, ◌*◌, ◌/◌, ◌%◌, ◌<◌, ◌≤◌, true, Some, List, [], ◌∷◌, ◌++◌, EachIndex}
use Rattle.std.specs.Prelude.{length, map, drop, slice_get, slice_index_or}
use Rattle.std.specs.List.{flat_map, list_all}
use Rattle.dtx_outer.specs.Inner.{codeword_byte_place, word_at, IsComplete}
use Rattle.dtx_receiver.specs.Bytes.{bytes_in}
use Rattle.dtx_receiver.specs.Intervals.{AreRuns, segments_in}
use Rattle.dtx_receiver.specs.Packets.{run_packets, all_packets, received}
use Rattle.dtx_receiver.specs.Runs.{runs}
use Rattle.dtx_receiver.specs.declared.batch.Received.{Received}
use Rattle.dtx_chain.specs.Damage.{as_received, IsNear, IsSlight, as_corrected, numbers_in}
use Rattle.dtx_exciter.specs.Lockstep.{segment_place}
use Rattle.dtx_network.specs.Headline.{last_packet, stretch_of}

-- ---- field syncs of a stretch

-- A field of the feed begins with packet f, and the field sync before it is a segment of the stretch from packet k to
-- packet end.
pub record BeginsField (k end f : ℕ) : Type 0 where
  pub begins : f % 312 ≡ 0
  pub behind : k < f
  pub inside : f ≤ last_packet end

-- how many segments the stretch from packet k on has before the field sync that stands before packet f
abbrev pub to_field : ℕ → ℕ → ℕ
to_field k f = segment_place f - 1 - segment_place k

-- the first packet behind packet k with which a field begins
abbrev pub next_field : ℕ → ℕ
next_field k = 312 * (k / 312 + 1)

-- ---- a run that begins with one of them, whatever else is received

-- word j of a run of received segments, as it is gathered
abbrev pub word_of : List (List ℤ) → ℕ → List ℕ
word_of run j = word_at 207 52 4 (bytes_in run) j

-- The run begins at the field sync before packet f of the feed, and packet j of the run can be given back.
pub record CanBeGivenBack (feed : List (List ℕ)) (end f : ℕ) (run : List (List ℤ)) (j : ℕ) : Type 0 where
  -- It is given for the run: its 207 bytes are all among the run's.
  pub given : IsComplete 207 52 4 (length (bytes_in run)) j
  -- They all lie in segments of the stretch. 828 bytes make a group of four data segments, and the last of these
  -- segments is one of the stretch's.
  pub inside : (i : ℕ) → i < 207 → f + 4 * (codeword_byte_place 52 4 (207 * j + i) / 828) + 3 ≤ last_packet end
  -- Its word differs from the codeword of packet f + j of the feed in at most ten bytes.
  pub near : IsNear feed (f + j) (word_of run j)

-- the packets of some runs of received segments, run after run
unfoldable pub packets_of_runs : List (List ℤ) → List (ℕ × ℕ) → List Received
packets_of_runs got places = flat_map (λ p. run_packets (bytes_in (segments_in got p))) places

-- Packet n of the feed stands at a place of all that is received, with 0x47 as its sync byte. It is good, and the bytes
-- put right are those in which its word differs from its codeword.
pub record IsBack (feed : List (List ℕ)) (got : List (List ℤ)) (place n : ℕ) (word : List ℕ) : Type 0 where
  pub packet : slice_get (received got) place ≡ Some (as_received (slice_index_or feed n []))
  pub good : slice_get (all_packets got) place ≡ Some (as_corrected feed n word)

-- The segments `got` are received, with the stretch from packet k to packet end at segment s of them. A run that begins
-- at a field sync of the stretch gives back each packet that can be given back, behind the packets of the runs before
-- it.
abbrev pub GivesBack : List (List ℕ) → ℕ → ℕ → ℕ → List (List ℤ) → Type 0
GivesBack feed k end s got =
    (f n j : ℕ) (earlier later : List (ℕ × ℕ)) → BeginsField k end f
    → AreRuns got 0 (earlier ++ (s + to_field k f, n) ∷ later)
    → CanBeGivenBack feed end f (segments_in got (s + to_field k f, n)) j
    → IsBack feed got (length (packets_of_runs got earlier) + j) (f + j)
    (word_of (segments_in got (s + to_field k f, n)) j)

-- ---- the stretch alone

-- The stretch alone is received: as many segments as it has, with slight damage.
pub record IsReceivedAlone (feed : List (List ℕ)) (k end : ℕ) (got : List (List ℤ)) : Type 0 where
  pub as_many : length got ≡ length (stretch_of feed k end)
  pub long : EachIndex got (λ i. length (slice_index_or got i []) ≡ 832)
  pub slight : IsSlight feed (segment_place k) (stretch_of feed k end) got

-- All is given back from packet f on. There is exactly one run, which begins at the field sync before packet f. What is
-- received is exactly the feed's packets from there on, with 0x47 as their sync bytes: one for each number that is
-- given for the run, in order. None is flagged.
pub record IsAllBack (feed : List (List ℕ)) (k f : ℕ) (got : List (List ℤ)) : Type 0 where
  pub run : runs got ≡ drop (to_field k f) got ∷ []
  pub packets : received got ≡ map (λ j. as_received (slice_index_or feed (f + j) []))
      (numbers_in (drop (to_field k f) got))
  pub good : list_all (λ r. r.good) (all_packets got) ≡ true

-- If the stretch holds a field sync and is received alone with slight damage, all is given back from its first field
-- on.
abbrev pub GivesAllBack : List (List ℕ) → ℕ → ℕ → List (List ℤ) → Type 0
GivesAllBack feed k end got = BeginsField k end (next_field k) → IsReceivedAlone feed k end got
    → IsAllBack feed k (next_field k) got
