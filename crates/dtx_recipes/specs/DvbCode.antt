-- What `dvb code` makes of a stream, and the units in which `dvb code` and `dvb read` read (EN 300 429).
use Rattle.std.specs.Prelude.{ℕ, List, [], ◌∷◌}
use Rattle.dtx_packets.specs.Packets.{packets_of, whole_packets}
use Rattle.dtx_dvb.specs.Stream.{dvb}
use Rattle.dtx_meaning.specs.Status.{done}
use Rattle.dtx_meaning.specs.declared.status.Outcome.{Outcome}
use Rattle.dtx_engine.specs.Made.{only}
use Rattle.dtx_engine.specs.Recipe.{Recipe}
use Rattle.dtx_words.specs.declared.rows.Command.TheVariants.{DvbCode}
use Rattle.dtx_forms.specs.Job.{Job}
use Rattle.dtx_forms.specs.Transform.{dvb_job}
use Rattle.dtx_recipes.specs.Place.{has_sync}
use Rattle.dtx_engine.specs.declared.engine.Shape.{Shape}

-- packets of 188 bytes for the outer coding of EN 300 429, each a unit of its own
abbrev pub dvb_packets : Shape
dvb_packets = record { unit = 188; units = 696; group = 1; limit = 624000000 }

-- blocks of 204 bytes of the outer coding of EN 300 429
abbrev pub blocks : Shape
blocks = record { unit = 204; units = 348; group = 1; limit = 624000000 }

-- the answer: the number of packets, and of loose bytes
abbrev pub dvb_code_answer : List ℕ → ℕ → Outcome
dvb_code_answer bytes loose = done (whole_packets bytes ∷ loose ∷ [])

-- the recipe: packets that begin with 0x47 are allowed, and are sent as one stream
abbrev pub dvb_coding : Recipe
dvb_coding = record {
  allows = has_sync;
  made = λ bytes. only (dvb (packets_of bytes));
  rest = λ _. only [];
  answer = dvb_code_answer;
}

-- the command `dvb code IN OUT`
abbrev pub dvb_code_job : Job
dvb_code_job = dvb_job DvbCode dvb_packets dvb_coding
