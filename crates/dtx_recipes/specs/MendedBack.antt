-- Which packets of a stream `mend` gives back when some of the stream's symbols are missing or damaged (the profile's
-- own; ATSC A/53 Part 2 for what is sent). A packet is a list of 188 bytes, a segment a list of 832 symbols.
use Rattle.std.specs.Prelude.{ℕ, ℤ, ◌≡◌, ◌≢◌, ◌+◌, ◌*◌, ◌%◌, ◌≤◌, Bool, All, Some, List, [], ◌∷◌, length, take}
use Rattle.std.specs.Prelude.{slice_get, slice_index_or}
use Rattle.std.specs.List.{flat_map, sum_by}
use Rattle.dtx_chain.specs.Damage.{AreFound, as_corrected, codeword_at, from_sync, numbers_in, packet_behind, word_in}
use Rattle.dtx_chain.specs.Damage.{as_received}
use Rattle.dtx_engine.specs.Made.{only, outputs_of}
use Rattle.dtx_erase.specs.Marks.{marks_in}
use Rattle.dtx_erase.specs.Mended.{all_mended, marks_at, mended_run}
use Rattle.dtx_erase.specs.Mending.{lost, unmarked_distance}
use Rattle.dtx_laws.specs.Codeword.{distance}
use Rattle.dtx_meaning.specs.Meaning.{Meaning}
use Rattle.dtx_meaning.specs.Status.{done}
use Rattle.dtx_outer.specs.Inner.{IsComplete, word_at}
use Rattle.dtx_packets.specs.Packets.{packets_of}
use Rattle.dtx_receiver.specs.Bytes.{bytes_in, groups_of}
use Rattle.dtx_receiver.specs.Intervals.{segments_in}
use Rattle.dtx_recipes.specs.Giving.{all_bytes, given_of, given_until}
use Rattle.dtx_recipes.specs.Mend.{with_mendings}
use Rattle.dtx_recipes.specs.SymbolFile.{file_segments, whole_segments}

-- the packets that `mend` writes for a symbol file, one behind the other
abbrev pub mended_bytes : List ℕ → List ℕ
mended_bytes file = all_bytes with_mendings file

-- what `mend` answers and writes for all segments of a symbol file
abbrev pub mended_of : List (List ℕ) → List ℕ → Meaning
mended_of names file = given_of with_mendings names file (length file % 832)

-- The same for a file of more than MOST_SEGMENTS segments: what the first MOST_SEGMENTS segments give while they come.
abbrev pub mended_until : List (List ℕ) → List ℕ → Meaning
mended_until names file = given_until with_mendings names file

-- no symbol of a file's whole segments is missing: the byte of a symbol of value -128 is 0x80
abbrev pub NoneMissing : List ℕ → Type 0
NoneMissing file = All (λ byte. byte ≢ 0x80) (take (832 * whole_segments file) file)

-- ---- words

-- The word differs from the codeword of packet k of a stream in e unmarked bytes, where f are marked, and 2 * e + f is
-- at most 20. A wrong byte costs two of the twenty parity bytes, a missing one costs one.
abbrev pub IsMendable : List (List ℕ) → ℕ → List Bool → List ℕ → Type 0
IsMendable stream k marks word = 2 * unmarked_distance marks word (codeword_at stream k) + lost marks ≤ 20

-- the marks of word j of a run
abbrev pub word_marks : List (List ℤ) → ℕ → List Bool
word_marks run j = marks_at (marks_in run) j

-- word j of a run, as it is gathered
abbrev pub word_of : List (List ℤ) → ℕ → List ℕ
word_of run j = word_at 207 52 4 (bytes_in run) j

-- ---- a run, whatever else is received

-- The bytes of word j of a run are all there, and the word is mendable to the codeword of packet k of a stream.
pub record CanBeMended (stream : List (List ℕ)) (k : ℕ) (run : List (List ℤ)) (j : ℕ) : Type 0 where
  pub given : IsComplete 207 52 4 (length (bytes_in run)) j
  pub near : IsMendable stream k (word_marks run j) (word_of run j)

-- how many packets the runs at these places of a list of segments give
abbrev pub packets_before : List (List ℤ) → List (ℕ × ℕ) → ℕ
packets_before got places = length (flat_map (λ p. mended_run (segments_in got p)) places)

-- Packet k of a stream is packet `place` of the packets that `mend` writes for a symbol file, with 0x47 as its sync
-- byte. It is not flagged. The bytes put right are those in which its word differs from its codeword, marked or not.
pub record IsMendedBack (stream : List (List ℕ)) (file : List ℕ) (place k : ℕ) (word : List ℕ) : Type 0 where
  pub packet : slice_get (packets_of (mended_bytes file)) place ≡ Some (as_received (slice_index_or stream k []))
  pub good : slice_get (all_mended (file_segments file)) place ≡ Some (as_corrected stream k word)

-- ---- segments in a row of a stream alone

-- Segments of a stream, from segment `first` on, are received with damage that can be mended. Their first field sync
-- and all later ones are found. The run begins with that first sync. Each of its words whose bytes are all there is
-- mendable.
pub record CanAllBeMended (stream : List (List ℕ)) (first : ℕ) (sent got : List (List ℤ)) : Type 0 where
  pub found : AreFound first sent got
  pub words : (j : ℕ) → IsComplete 207 52 4 (828 * groups_of (from_sync first got)) j
      → IsMendable stream (packet_behind first + j) (word_marks (from_sync first got) j) (word_in first got j)

-- how many bytes are put right in the words of the packets from the one behind the first field sync on
abbrev pub put_right : List (List ℕ) → ℕ → List (List ℤ) → ℕ
put_right stream first got = sum_by (λ j. distance (word_in first got j) (codeword_at stream (packet_behind first + j)))
    (numbers_in (from_sync first got))

-- What `mend` answers and writes for a file whose packets all come back. There is one run. Its packets are those of the
-- stream from the one behind the first field sync on, as far as their bytes are all there. They are in order, with 0x47
-- as their sync bytes. None is flagged.
abbrev pub all_back_of : List (List ℕ) → List (List ℕ) → ℕ → List ℕ → Meaning
all_back_of names stream first file = record {
  outcome = done (whole_segments file ∷ 1 ∷ length (numbers_in (from_sync first (file_segments file)))
      ∷ put_right stream first (file_segments file) ∷ 0 ∷ (length file % 832) ∷ []);
  outputs = outputs_of names (only (flat_map (λ j. as_received (slice_index_or stream (packet_behind first + j) []))
      (numbers_in (from_sync first (file_segments file)))));
}
