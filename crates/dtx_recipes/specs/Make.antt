-- What `make SEED COUNT OUT` means: it writes a made stream (the profile's own).
use Rattle.std.specs.Prelude.{ℕ, ◌-◌, ◌^◌, List, [], ◌∷◌, Option, Some, None}
use Rattle.dtx_outside.specs.Shelf.{Files}
use Rattle.dtx_make.specs.Made.{made_stream}
use Rattle.dtx_meaning.specs.Meaning.{Meaning, refused}
use Rattle.dtx_meaning.specs.Status.{done}
use Rattle.dtx_meaning.specs.declared.status.Status.TheVariants.{Usage}
use Rattle.dtx_packets.specs.Packets.{most_packets}
use Rattle.dtx_words.specs.Fitting.{number_in}
use Rattle.dtx_words.specs.declared.rows.Command.TheVariants.{Make}
use Rattle.dtx_words.specs.declared.rows.Field.TheVariants.{Number, Output}
use Rattle.dtx_forms.specs.Job.{Job}

-- the packets 0 to `count - 1` of a seed are written to a file of that name
abbrev pub made_file : ℕ → ℕ → List ℕ → Meaning
made_file seed count output = record {
  outcome = done (count ∷ []);
  outputs = (output, made_stream seed count) ∷ [];
}

-- the meaning for a seed and a count: `None` is a word that isn't a number in its range
abbrev pub made_of : Option ℕ → Option ℕ → List ℕ → Meaning
made_of (Some seed) (Some count) output = made_file seed count output
made_of (Some seed) None output = refused Usage
made_of None count output = refused Usage

-- the meaning of the words: SEED is 0 to 2^64 - 1, and COUNT is 0 to `most_packets`
abbrev pub make_meaning : List (List ℕ) → Files → Meaning
make_meaning (verb ∷ seed ∷ count ∷ output ∷ []) held =
    made_of (number_in (2 ^ 64 - 1) seed) (number_in most_packets count) output
make_meaning words held = refused Usage

-- the command `make SEED COUNT OUT`
abbrev pub make_job : Job
make_job = record {
  command = Make;
  fields = Number (2 ^ 64 - 1) ∷ Number most_packets ∷ Output ∷ [];
  means = make_meaning;
  inputs = 0;
  stages = λ words. None;
}
