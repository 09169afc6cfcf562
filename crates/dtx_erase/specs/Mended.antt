-- The packets of runs of which some symbols are missing (the profile's own; ATSC A/53 Part 2, Reed-Solomon encoder,
-- interleaving and data randomizer: the way back).
use Rattle.std.specs.Prelude.{ℕ, ℤ, ◌+◌, ◌-◌, ◌*◌, ◌&&◌, nat_le, Bool, false, Option, List, length, map, slice_index_or}
use Rattle.std.specs.List.{range_with_len, flat_map, find}
use Rattle.dtx_laws.specs.Words.{all_words, vanishes}
use Rattle.dtx_outer.specs.Inner.{codeword_byte_place}
use Rattle.dtx_receiver.specs.declared.batch.Received.{Received}
use Rattle.dtx_receiver.specs.Runs.{runs}
use Rattle.dtx_receiver.specs.Bytes.{bytes_in}
use Rattle.dtx_receiver.specs.Packets.{packet_at, packets_by, early_by, so_far_of}
use Rattle.dtx_erase.specs.Mending.{lost, unmarked_distance}
use Rattle.dtx_erase.specs.Marks.{marks_in}

-- the mending of a word, where it has one: the first that fits among all lists of bytes
unfoldable pub mending : ℕ → ℕ → List Bool → List ℕ → Option (List ℕ)
mending n k marks word =
    find (λ c. vanishes n k c && nat_le (2 * unmarked_distance marks word c + lost marks) (n - k)) (all_words n)

-- the marks of word k, which are gathered as its bytes are
unfoldable pub marks_at : List Bool → ℕ → List Bool
marks_at marks k = map (λ p. slice_index_or marks (codeword_byte_place 52 4 p) false) (range_with_len (207 * k) 207)

-- packet k of the bytes of a run, by the mending of its word
unfoldable pub mended_at : List ℕ → List Bool → ℕ → Received
mended_at bytes marks k = packet_at (mending 207 187 (marks_at marks k)) bytes k

-- the packets of a run: each whose bytes are all there
unfoldable pub mended_run_packets : List ℕ → List Bool → List Received
mended_run_packets bytes marks = packets_by (mended_at bytes marks) (length bytes)

-- the packets of a run that are given while it is on
unfoldable pub mended_early : List ℕ → List Bool → List Received
mended_early bytes marks = early_by (mended_at bytes marks) (length bytes)

-- the packets of a run, from its segments
abbrev pub mended_run : List (List ℤ) → List Received
mended_run run = mended_run_packets (bytes_in run) (marks_in run)

abbrev pub mended_run_early : List (List ℤ) → List Received
mended_run_early run = mended_early (bytes_in run) (marks_in run)

-- the packets of a list of segments, run after run
unfoldable pub all_mended : List (List ℤ) → List Received
all_mended segments = flat_map mended_run (runs segments)

-- the packets of a list of segments that are given before the list ends
unfoldable pub mended_so_far : List (List ℤ) → List Received
mended_so_far segments = so_far_of mended_run mended_run_early segments

-- the bytes of all packets of a list of segments
unfoldable pub mended : List (List ℤ) → List (List ℕ)
mended segments = map (λ r. r.packet.0) (all_mended segments)
