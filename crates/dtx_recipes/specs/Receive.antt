-- What `receive` makes of a symbol file (ATSC A/53 Part 2, the way back).
use Rattle.std.specs.Prelude.{◌≡◌, ℕ, ℤ, false, Some, List, [], ◌∷◌}
use Rattle.std.specs.FinMap.{get}
use Rattle.std.specs.Str.{bytes_eq}
use Rattle.dtx_engine.specs.Recipe.{Recipe}
use Rattle.dtx_meaning.specs.declared.status.Outcome.{Outcome}
use Rattle.dtx_meaning.specs.Meaning.{Meaning}
use Rattle.dtx_outside.specs.Shelf.{Files}
use Rattle.dtx_receiver.specs.Packets.{all_packets, packets_so_far, received}
use Rattle.dtx_recipes.specs.Giving.{Giving, all_bytes, answer_of, receiving_by, given_of}
use Rattle.dtx_words.specs.declared.rows.Command.TheVariants.{Receive}
use Rattle.dtx_forms.specs.Job.{Job}
use Rattle.dtx_forms.specs.Shapes.{segments}
use Rattle.dtx_forms.specs.Transform.{transform_job}

-- what a receiver gives that corrects each word
abbrev pub with_corrections : Giving
with_corrections = record { so_far = packets_so_far; all = all_packets; packets = received }

-- the packets that `receive` writes for a symbol file, one behind the other
abbrev pub received_bytes : List ℕ → List ℕ
received_bytes file = all_bytes with_corrections file

-- the answer
abbrev pub receive_answer : List (List ℤ) → ℕ → Outcome
receive_answer list loose = answer_of with_corrections list loose

-- the recipe
abbrev pub receiving : Recipe
receiving = receiving_by with_corrections

-- the command `receive IN OUT`
abbrev pub receive_job : Job
receive_job = transform_job Receive segments receiving

-- `receive` writes these bytes for that symbol file, whatever the two different names of its files are
abbrev pub IsWritten : List ℕ → List ℕ → Type 0
IsWritten file bytes = (verb input output : List ℕ) (held : Files) → bytes_eq input output ≡ false
    → get held input ≡ Some file
    → (receive_job.means (verb ∷ input ∷ output ∷ []) held).outputs ≡ (output, bytes) ∷ []

-- what `receive` answers and writes for all segments of a file, with `loose` bytes behind them
abbrev pub received_of : List (List ℕ) → List ℕ → ℕ → Meaning
received_of names file loose = given_of with_corrections names file loose
