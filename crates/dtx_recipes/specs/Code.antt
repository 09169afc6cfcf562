-- What `code` makes of a stream (ATSC A/53 Part 2).
use Rattle.std.specs.Prelude.{ℕ, ◌==◌, ◌||◌, Bool, List, [], ◌∷◌, length}
use Rattle.dtx_packets.specs.Packets.{sync_of, packets_of, whole_packets}
use Rattle.dtx_coder.specs.Stream.{a53}
use Rattle.dtx_meaning.specs.Status.{done}
use Rattle.dtx_meaning.specs.declared.status.Outcome.{Outcome}
use Rattle.dtx_engine.specs.Made.{only}
use Rattle.dtx_engine.specs.Recipe.{Recipe}
use Rattle.dtx_words.specs.declared.rows.Command.TheVariants.{Code}
use Rattle.dtx_forms.specs.Job.{Job}
use Rattle.dtx_forms.specs.Shapes.{coded_packets}
use Rattle.dtx_forms.specs.Transform.{transform_job}
use Rattle.dtx_recipes.specs.SymbolFile.{symbol_bytes}

-- a packet that may be coded: its byte 0, which isn't sent, is 0x47 or the mark 0xB8
abbrev pub may_be_coded : List ℕ → Bool
may_be_coded packet = sync_of packet == 0x47 || sync_of packet == 0xB8

-- the answer: the number of packets, of the segments of their whole groups, and of loose bytes
abbrev pub code_answer : List ℕ → ℕ → Outcome
code_answer bytes loose = done (whole_packets bytes ∷ length (a53 (packets_of bytes)) ∷ loose ∷ [])

-- the recipe
abbrev pub coding : Recipe
coding = record {
  allows = λ _ packet. may_be_coded packet;
  made = λ bytes. only (symbol_bytes (packets_of bytes));
  rest = λ _. only [];
  answer = code_answer;
}

-- the command `code IN OUT`
abbrev pub code_job : Job
code_job = transform_job Code coded_packets coding
