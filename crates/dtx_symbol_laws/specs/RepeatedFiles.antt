-- What `repeat` answers and writes for whole symbol files (the profile's own, over ATSC A/53 Part 2 and in the manner
-- of ATSC A/110).
use Rattle.std.specs.Prelude.{ℕ, ℤ, ◌%◌, List, length, take}
use Rattle.dtx_engine.specs.Made.{Made, outputs_of}
use Rattle.dtx_files.specs.LogText.{log_text}
use Rattle.dtx_files.specs.Symbols.{segment_bytes}
use Rattle.dtx_meaning.specs.Meaning.{Meaning}
use Rattle.dtx_meaning.specs.Status.{done, ended}
use Rattle.dtx_meaning.specs.declared.status.Status.TheVariants.{TooLong}
use Rattle.dtx_receiver.specs.Runs.{runs}
use Rattle.dtx_repeat.specs.Lives.{lives, lives_so_far, repeated, repeated_log}
use Rattle.dtx_sizes.specs.declared.limits.TheConstants.{MOST_SEGMENTS}
use Rattle.dtx_recipes.specs.Life.{lives_tally}
use Rattle.dtx_recipes.specs.Repeat.{repeated_numbers, sent_in}
use Rattle.dtx_recipes.specs.SymbolFile.{file_segments, whole_segments}

-- what is written for segments: one byte for each symbol that is sent, and the lines of the log
abbrev pub repeated_outputs : ℕ → ℕ → List (List ℤ) → Made
repeated_outputs address delay list = record {
  first = segment_bytes (repeated address delay list);
  second = log_text (repeated_log address delay list);
}

-- the answer and the outputs for a file in which a segment looks like a field sync
abbrev pub repeated_of : ℕ → ℕ → List (List ℕ) → List ℕ → Meaning
repeated_of address delay names file = record {
  outcome = done (repeated_numbers (whole_segments file) (length (runs (file_segments file)))
      (lives_tally address delay (lives (file_segments file))) (length file % 832));
  outputs = outputs_of names (repeated_outputs address delay (file_segments file));
}

-- what is written for segments while they come
abbrev pub outputs_so_far : ℕ → ℕ → List (List ℤ) → Made
outputs_so_far address delay list = sent_in address delay (lives_so_far list)

-- The same for a file of more than MOST_SEGMENTS segments: the answer is `TooLong`. The outputs are what the first
-- MOST_SEGMENTS segments give while they come.
abbrev pub repeated_until : ℕ → ℕ → List (List ℕ) → List ℕ → Meaning
repeated_until address delay names file = record {
  outcome = ended TooLong;
  outputs = outputs_of names (outputs_so_far address delay (take MOST_SEGMENTS (file_segments file)));
}
