-- The packets of runs (ATSC A/53 Part 2, Reed-Solomon encoder, interleaving and data randomizer: the way back).
use Rattle.std.specs.Prelude.{ℕ, ℤ, ◌+◌, ◌-◌, ◌*◌, ◌/◌, ◌%◌, nat_lt, Bool, true, false, Option, Some, None, List, ◌∷◌}
use Rattle.std.specs.Prelude.{◌++◌, length, map, take, filter, option_to_list}
use Rattle.std.specs.List.{range_with_len, list_all, flat_map}
use Rattle.dtx_laws.specs.Codeword.{distance}
use Rattle.dtx_laws.specs.Whitening.{whitened}
use Rattle.dtx_laws.specs.Words.{correction}
use Rattle.dtx_outer.specs.Inner.{codeword_byte_place, word_at}
use Rattle.dtx_packets.specs.Packets.{with_error}
use Rattle.dtx_whiten.specs.Randomizer.{randomizer_bytes}
use Rattle.dtx_receiver.specs.declared.batch.Received.{Received}
use Rattle.dtx_receiver.specs.Runs.{tracked, runs}
use Rattle.dtx_receiver.specs.Bytes.{bytes_in}

-- whether all 207 bytes of word k are among the first `count` bytes of a run
unfoldable pub is_complete : ℕ → ℕ → Bool
is_complete count k = list_all (λ j. nat_lt (codeword_byte_place 52 4 (207 * k + j)) count) (range_with_len 0 207)

-- the data of a word as a packet: unwhitened, behind the sync byte 0x47
abbrev pub packet_bytes : ℕ → List ℕ → List ℕ
packet_bytes from word = 0x47 ∷ whitened randomizer_bytes from (take 187 word)

-- The packet of a word, by the word's correction. Where it has none, the packet has the word's own data and the error
-- indicator.
abbrev pub received_by : ℕ → List ℕ → Option (List ℕ) → Received
received_by from word (Some code) = record {
  packet = record { 0 = packet_bytes from code };
  fixed = distance word code;
  good = true;
}
received_by from word None = record {
  packet = record { 0 = with_error (packet_bytes from word) };
  fixed = 0;
  good = false;
}

-- Packet k of the bytes of a run. `made` gives the correction of a word. The word's data are unwhitened as those of
-- packet k of a stream.
abbrev pub packet_at : (List ℕ → Option (List ℕ)) → List ℕ → ℕ → Received
packet_at made bytes k = received_by (187 * (k % 312)) (word_at 207 52 4 bytes k) (made (word_at 207 52 4 bytes k))

-- The packets of the first `count` bytes of a run: each whose bytes are all there. `at` gives packet k. There is at
-- most one for each 207 bytes.
abbrev pub packets_by : (ℕ → Received) → ℕ → List Received
packets_by at count = map at (filter (is_complete count) (range_with_len 0 (count / 207)))

-- the packets that are given while the run is on: those with 53 data segments or more from the packet's own on
abbrev pub early_by : (ℕ → Received) → ℕ → List Received
early_by at count = map at (range_with_len 0 (count / 207 - 52))

-- The packets of a list of segments that are given before the list ends. `whole` gives the packets of a run that has
-- ended, and `early` those of the run that is on.
abbrev pub so_far_of : (whole early : List (List ℤ) → List Received) → List (List ℤ) → List Received
so_far_of whole early segments =
    flat_map whole (tracked segments).ended ++ flat_map early (option_to_list (tracked segments).run)

-- ---- where each word is corrected

-- packet k of the bytes of a run, by the correction of its word
unfoldable pub received_at : List ℕ → ℕ → Received
received_at bytes k = packet_at (correction 207 187) bytes k

-- the packets of a run: each whose bytes are all there
unfoldable pub run_packets : List ℕ → List Received
run_packets bytes = packets_by (received_at bytes) (length bytes)

-- the packets of a run that are given while it is on
unfoldable pub early_of : List ℕ → List Received
early_of bytes = early_by (received_at bytes) (length bytes)

-- the packets of a list of segments, run after run
unfoldable pub all_packets : List (List ℤ) → List Received
all_packets segments = flat_map (λ run. run_packets (bytes_in run)) (runs segments)

-- the packets of a list of segments that are given before the list ends
unfoldable pub packets_so_far : List (List ℤ) → List Received
packets_so_far segments = so_far_of (λ run. run_packets (bytes_in run)) (λ run. early_of (bytes_in run)) segments

-- the bytes of all packets of a list of segments
unfoldable pub received : List (List ℤ) → List (List ℕ)
received segments = map (λ r. r.packet.0) (all_packets segments)
