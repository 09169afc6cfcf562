-- Damage of a stream's symbols as they are received, and how much of it a receiver repairs (the profile's own; what is
-- sent is that of ATSC A/53 Part 2). A packet is the list of its 188 bytes, a segment the list of its 832 symbols. The
-- segments of a stream are counted from 0. Its field syncs are segments 0, 313, 626 and so on.
use Rattle.std.specs.Prelude.{ℕ, ℤ, pos, ◌≡◌, ◌+◌, ◌-◌, ◌*◌, ◌/◌, ◌%◌, ◌<◌, ◌≤◌, ◌==◌, if◌then◌else◌, true, List, []}
use Rattle.std.specs.Prelude.{length, map, drop, sum, filter, EachIndex, slice_index_or, slice_range, ◌∷◌}
use Rattle.std.specs.List.{range_with_len, AllByRecursion}
use Rattle.dtx_laws.specs.Codeword.{distance}
use Rattle.dtx_laws.specs.Words.{codeword}
use Rattle.dtx_whiten.specs.Randomizer.{randomized}
use Rattle.dtx_outer.specs.Inner.{word_at, IsComplete}
use Rattle.dtx_slice.specs.Slicing.{sliced}
use Rattle.dtx_coder.specs.Stream.{a53}
use Rattle.dtx_receiver.specs.Bytes.{groups_of, bytes_in}
use Rattle.dtx_receiver.specs.Intervals.{looks_at}
use Rattle.dtx_receiver.specs.Packets.{is_complete}
use Rattle.dtx_receiver.specs.declared.batch.Received.{Received}
use Rattle.dtx_galois.specs.Field.{AreBytes}

-- each packet has 188 bytes
abbrev pub ArePackets : List (List ℕ) → Type 0
ArePackets packets = AllByRecursion (λ p. (length p ≡ 188) × AreBytes p) packets

-- the packet as it is received: with 0x47 as its sync byte, since its own isn't sent
unfoldable pub as_received : List ℕ → List ℕ
as_received packet = 0x47 ∷ drop 1 packet

-- packet k, received good, with no byte put right
unfoldable pub as_sent : List (List ℕ) → ℕ → Received
as_sent packets k = record { packet = record { 0 = as_received (slice_index_or packets k []) }; fixed = 0; good = true }

-- the numbers of the packets whose 207 bytes are all among the bytes of the stream's whole groups
unfoldable pub whole_words : List (List ℕ) → List ℕ
whole_words packets = filter (is_complete (828 * (length packets / 4))) (range_with_len 0 (4 * (length packets / 4)))

-- ---- words

-- the codeword of packet k of a stream (data randomizer and Reed-Solomon encoder)
unfoldable pub codeword_at : List (List ℕ) → ℕ → List ℕ
codeword_at packets k = codeword 207 187 (randomized k (slice_index_or packets k []))

-- The word differs from the codeword of packet k in at most ten bytes.
abbrev pub IsNear : List (List ℕ) → ℕ → List ℕ → Type 0
IsNear packets k word = distance word (codeword_at packets k) ≤ 10

-- packet k as it is received from this word: good, with the bytes put right in which the word differs from the codeword
unfoldable pub as_corrected : List (List ℕ) → ℕ → List ℕ → Received
as_corrected packets k word = record {
  packet = record { 0 = as_received (slice_index_or packets k []) };
  fixed = distance word (codeword_at packets k);
  good = true;
}

-- ---- symbols

-- 1 if symbol i of a segment is damaged: the level sliced from what was received isn't that of the symbol sent
unfoldable pub damage_at : List ℤ → List ℤ → ℕ → ℕ
damage_at sent got i = if sliced (slice_index_or got i (pos 0)) == sliced (slice_index_or sent i (pos 0)) then 0 else 1

-- how many of a segment's first 515 symbols are damaged
unfoldable pub damaged_symbols : List ℤ → List ℤ → ℕ
damaged_symbols sent got = sum (map (damage_at sent got) (range_with_len 0 515))

-- ---- segments

-- These are segments in a row of a stream, from segment `first` on, and what was received of them.
pub record AreReceived (packets : List (List ℕ)) (first : ℕ) (sent got : List (List ℤ)) : Type 0 where
  pub in_a_row : sent ≡ slice_range (a53 packets) first (first + length sent)
  pub as_many : length got ≡ length sent
  pub long : EachIndex got (λ i. length (slice_index_or got i []) ≡ 832)

-- how many segments stand before the first field sync, from segment `first` of a stream on
unfoldable pub to_sync : ℕ → ℕ
to_sync first = (313 - first % 313) % 313

-- the segments from the first field sync on
unfoldable pub from_sync : ℕ → List (List ℤ) → List (List ℤ)
from_sync first segments = drop (to_sync first) segments

-- the number in the stream of the packet after that field sync: each field has 313 segments and 312 packets
unfoldable pub packet_behind : ℕ → ℕ
packet_behind first = 312 * ((first + to_sync first) / 313)

-- the numbers, in a run, of the packets whose 207 bytes are all among the bytes of the run's whole groups
unfoldable pub numbers_in : List (List ℤ) → List ℕ
numbers_in run = filter (is_complete (828 * groups_of run)) (range_with_len 0 (4 * groups_of run))

-- word j of the run that begins with the first field sync
unfoldable pub word_in : ℕ → List (List ℤ) → ℕ → List ℕ
word_in first got j = word_at 207 52 4 (bytes_in (from_sync first got)) j

-- A receiver finds the field syncs of segments in a row of a stream, and takes no data segment before the first of them
-- for one.
pub record AreFound (first : ℕ) (sent got : List (List ℤ)) : Type 0 where
  -- Each field sync looks like one as it is received.
  pub syncs : (i : ℕ) → i < length sent → (first + i) % 313 ≡ 0 → looks_at got i ≡ true
  -- No data segment before the first field sync has more than 31 damaged symbols among its first 515.
  pub before : (i : ℕ) → i < length sent → i < to_sync first
      → damaged_symbols (slice_index_or sent i []) (slice_index_or got i []) ≤ 31

-- The damage is slight: the field syncs are found, and no whole word has more than ten wrong bytes.
pub record IsSlight (packets : List (List ℕ)) (first : ℕ) (sent got : List (List ℤ)) : Type 0 where
  pub found : AreFound first sent got
  -- In the run from the first field sync on, each word whose bytes are all there is near the codeword of its packet.
  pub words : (j : ℕ) → IsComplete 207 52 4 (828 * groups_of (from_sync first got)) j
      → IsNear packets (packet_behind first + j) (word_in first got j)
