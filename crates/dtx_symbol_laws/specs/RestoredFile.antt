-- What `acquire` and `refine` answer and write for whole files (the profile's own).
use Rattle.std.specs.Prelude.{ℕ, ℤ, List, length, take, ◌≡◌, ◌*◌, ◌%◌, true, Some, slice_get}
use Rattle.dtx_receiver.specs.Bytes.{bytes_in}
use Rattle.dtx_acquire.specs.Acquired.{acquired, acquired_cost, acquired_runs}
use Rattle.dtx_rounds.specs.Known.{known_count}
use Rattle.dtx_rounds.specs.Rounds.{heard_of, refined, round_cost, round_moved}
use Rattle.dtx_engine.specs.Made.{only, outputs_of}
use Rattle.dtx_files.specs.Symbols.{segment_bytes}
use Rattle.dtx_meaning.specs.Meaning.{Meaning}
use Rattle.dtx_meaning.specs.Status.{done, ended}
use Rattle.dtx_meaning.specs.declared.status.Outcome.{Outcome}
use Rattle.dtx_meaning.specs.declared.status.Status.TheVariants.{TooLong}
use Rattle.dtx_sizes.specs.declared.limits.TheConstants.{MOST_SYMBOLS}
use Rattle.dtx_recipes.specs.Acquire.{acquired_numbers}
use Rattle.dtx_recipes.specs.Refine.{before_last, refined_numbers}
use Rattle.dtx_recipes.specs.Restoring.{Restoring}
use Rattle.dtx_recipes.specs.SymbolFile.{symbols}
use Rattle.dtx_outer.specs.Inner.{word_at}
use Rattle.dtx_receiver.specs.Packets.{received_by}
use Rattle.dtx_receiver.specs.declared.batch.Received.{Received}

-- ---- both

-- an answer, and the segments that OUT holds
abbrev pub restored_with : List (List ℕ) → Outcome → List (List ℤ) → Meaning
restored_with names outcome segments = record {
  outcome = outcome;
  outputs = outputs_of names (only (segment_bytes segments));
}

-- What is answered and written for a file of more than MOST_SYMBOLS bytes: the answer is `TooLong`. OUT is what the
-- first MOST_SYMBOLS symbols give while they come.
abbrev pub restored_until : Restoring → List (List ℕ) → List ℕ → Meaning
restored_until restoring names file =
    restored_with names (ended TooLong) (restoring.so_far (take MOST_SYMBOLS (symbols file)))

-- ---- `acquire`

-- the segments that are acquired of a file; each byte is a symbol
abbrev pub file_acquired : ℕ → List ℕ → List (List ℤ)
file_acquired scale file = acquired scale (symbols file)

-- what `acquire` answers and writes for a file of which something is acquired
abbrev pub acquired_of : ℕ → List (List ℕ) → List ℕ → Meaning
acquired_of scale names file =
    restored_with names (done (acquired_numbers (length file) (acquired_runs (symbols file))
    (length (file_acquired scale file)) (acquired_cost scale (symbols file)))) (file_acquired scale file)

-- ---- `refine`

-- the segments of a file after so many rounds; each byte is a symbol
abbrev pub file_refined : ℕ → ℕ → List ℕ → List (List ℤ)
file_refined scale rounds file = refined scale (symbols file) rounds

-- What `refine` answers and writes for a file of which something is refined. The cost, the words known and the
-- symbols moved are those of the last round, over what it was given.
abbrev pub refined_of : ℕ → ℕ → List (List ℕ) → List ℕ → Meaning
refined_of scale rounds names file =
    restored_with names (done (refined_numbers (length file) (acquired_runs (symbols file))
    (length (file_refined scale rounds file))
    (round_cost scale (heard_of (symbols file)) (before_last scale rounds (symbols file)))
    (known_count (bytes_in (before_last scale rounds (symbols file))))
    (round_moved scale (heard_of (symbols file)) (before_last scale rounds (symbols file)))))
    (file_refined scale rounds file)

-- Packet k of the bytes of a run, by this correction of its word: it isn't flagged. The bytes put right are those in
-- which the word differs from the correction.
abbrev pub received_as : List ℕ → ℕ → List ℕ → Received
received_as bytes k code = received_by (187 * (k % 312)) (word_at 207 52 4 bytes k) (Some code)

-- Each packet that isn't flagged stands at its place among others too, the same and not flagged. How many of its bytes
-- were put right may differ.
abbrev pub StayGood : (before now : List Received) → Type 0
StayGood before now = (k : ℕ) (old : Received) → slice_get before k ≡ Some old → old.good ≡ true
    → (new : Received) × (slice_get now k ≡ Some new) × (new.good ≡ true) × (new.packet ≡ old.packet)
