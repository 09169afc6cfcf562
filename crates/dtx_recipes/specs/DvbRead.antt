-- What `dvb read` makes of the bytes of a stream as they were sent (EN 300 429, the way back). The first byte begins a
-- block that begins a group of eight.
use Rattle.std.specs.Prelude.{ℕ, ◌/◌, true, List, [], ◌∷◌, length, flat_map}
use Rattle.dtx_dvb.specs.Read.{Read, fixed_in, flagged_in}
use Rattle.dtx_dvb.specs.Reading.{read_dvb}
use Rattle.dtx_meaning.specs.Status.{done}
use Rattle.dtx_meaning.specs.declared.status.Outcome.{Outcome}
use Rattle.dtx_engine.specs.Made.{only}
use Rattle.dtx_engine.specs.Recipe.{Recipe}
use Rattle.dtx_words.specs.declared.rows.Command.TheVariants.{DvbRead}
use Rattle.dtx_forms.specs.Job.{Job}
use Rattle.dtx_forms.specs.Transform.{dvb_job}
use Rattle.dtx_recipes.specs.DvbCode.{blocks}

-- the bytes of packets that were read, one behind the other
abbrev pub bytes_of_reads : List Read → List ℕ
bytes_of_reads reads = flat_map (λ r. r.packet) reads

-- how many whole blocks of 204 bytes there are
abbrev pub whole_blocks : List ℕ → ℕ
whole_blocks bytes = length bytes / 204

-- the answer: the number of blocks, of packets, of bytes put right, of packets that are flagged, and of loose bytes
abbrev pub dvb_read_answer : List ℕ → ℕ → Outcome
dvb_read_answer bytes loose =
    done (whole_blocks bytes ∷ length (read_dvb bytes) ∷ fixed_in (read_dvb bytes) ∷ flagged_in (read_dvb bytes)
    ∷ loose ∷ [])

-- the recipe
abbrev pub dvb_reading : Recipe
dvb_reading = record {
  allows = λ _ _. true;
  made = λ bytes. only (bytes_of_reads (read_dvb bytes));
  rest = λ _. only [];
  answer = dvb_read_answer;
}

-- the command `dvb read IN OUT`
abbrev pub dvb_read_job : Job
dvb_read_job = dvb_job DvbRead blocks dvb_reading
