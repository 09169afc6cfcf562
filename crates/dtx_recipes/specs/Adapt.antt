-- What `adapt PLAN IN OUT` means: it writes the feed of a stream under a plan (the profile's own).
use Rattle.std.specs.Prelude.{ℕ, ◌==◌, List, [], ◌∷◌, flat_map}
use Rattle.std.specs.FinMap.{get}
use Rattle.dtx_outside.specs.Shelf.{Files}
use Rattle.dtx_packets.specs.Packets.{sync_of, packets_of, whole_packets}
use Rattle.dtx_plan.specs.Plan.{plan_of}
use Rattle.dtx_plan.specs.declared.plan.Plan.{Plan}
use Rattle.dtx_adapter.specs.Feed.{placeholders, feed}
use Rattle.dtx_meaning.specs.Meaning.{Meaning}
use Rattle.dtx_meaning.specs.Status.{done}
use Rattle.dtx_meaning.specs.declared.status.Outcome.{Outcome}
use Rattle.dtx_engine.specs.Made.{only}
use Rattle.dtx_engine.specs.Recipe.{Recipe, meaning}
use Rattle.dtx_words.specs.declared.rows.Command.TheVariants.{Adapt}
use Rattle.dtx_forms.specs.PlanFile.{under_plan}
use Rattle.dtx_forms.specs.Job.{Job}
use Rattle.dtx_forms.specs.Shapes.{packets}
use Rattle.dtx_forms.specs.Stages.{Stages, stages_under}
use Rattle.dtx_forms.specs.Transform.{combine_job}

-- the bytes of packets, one behind another
abbrev pub bytes_of_packets : List (List ℕ) → List ℕ
bytes_of_packets packets = flat_map (λ p. p) packets

-- the file of the feed of a stream under a plan
abbrev pub feed_bytes : Plan → List (List ℕ) → List ℕ
feed_bytes plan packets = bytes_of_packets (feed plan packets)

-- the answer: the number of packets, of placeholders filled, and of bytes behind the last whole packet
abbrev pub fed_outcome : List ℕ → ℕ → Outcome
fed_outcome stream loose = done (whole_packets stream ∷ placeholders (packets_of stream) ∷ loose ∷ [])

-- The recipe: packets that begin with the sync byte 0x47 are allowed (ISO/IEC 13818-1, 2.4.3.2), and become those of
-- the feed.
abbrev pub feeding : Plan → Recipe
feeding plan = record {
  allows = λ k packet. sync_of packet == 0x47;
  made = λ stream. only (feed_bytes plan (packets_of stream));
  rest = λ stream. only [];
  answer = fed_outcome;
}

-- the meaning for files of these names, where `output` is neither of the others
abbrev pub adapted : List ℕ → List ℕ → List ℕ → Files → Meaning
adapted plan input output held =
    under_plan 0 (get held plan) (λ said. meaning packets (feeding said) 1 (output ∷ []) (get held input))

-- the stages: the plan is read before OUT is begun
abbrev pub adapt_stages : List ℕ → List ℕ → List ℕ → Stages
adapt_stages plan input output = stages_under plan_of plan packets feeding input (output ∷ [])

-- the command `adapt PLAN IN OUT`
abbrev pub adapt_job : Job
adapt_job = combine_job Adapt adapted adapt_stages
