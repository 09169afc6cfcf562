-- What `hurt IN CHANGES OUT` means: it writes a file with damage laid over its bytes (the profile's own).
use Rattle.std.specs.Prelude.{ℕ, true, List, [], ◌∷◌, length, Option, Some, None, ◌+◌, Bool, nat_lt, position}
use Rattle.std.specs.FinMap.{get}
use Rattle.dtx_outside.specs.Shelf.{Files}
use Rattle.dtx_plan.specs.Plan.{changes_of}
use Rattle.dtx_plan.specs.declared.damage.Damage.{Damage}
use Rattle.dtx_make.specs.Hurt.{hurt, damaged_places}
use Rattle.dtx_meaning.specs.Meaning.{Meaning}
use Rattle.dtx_meaning.specs.Status.{done, ended}
use Rattle.dtx_meaning.specs.declared.status.Outcome.{Outcome}
use Rattle.dtx_meaning.specs.declared.status.Status.TheVariants.{OutOfAir}
use Rattle.dtx_engine.specs.Made.{only}
use Rattle.dtx_engine.specs.Recipe.{Recipe, meaning}
use Rattle.dtx_words.specs.declared.rows.Command.TheVariants.{Hurt}
use Rattle.dtx_forms.specs.PlanFile.{under_changes}
use Rattle.dtx_forms.specs.Job.{Job}
use Rattle.dtx_forms.specs.Shapes.{single_bytes}
use Rattle.dtx_forms.specs.Stages.{Stages, stages_under}
use Rattle.dtx_forms.specs.Transform.{combine_job}

-- an entry ends past the end of a file of `bytes` bytes
abbrev pub ends_past : ℕ → Damage → Bool
ends_past bytes entry = nat_lt bytes (entry.at + entry.count)

-- the number of the first entry that ends past the end
unfoldable pub first_past : List Damage → ℕ → Option ℕ
first_past damage bytes = position (ends_past bytes) damage

-- The answer for a file of `bytes` bytes: `OutOfAir` with the first entry that ends past its end. Where no entry does,
-- the numbers are the bytes, and how many of them some entry covers.
abbrev pub hurt_end : List Damage → ℕ → Option ℕ → Outcome
hurt_end damage bytes (Some entry) = ended (OutOfAir entry)
hurt_end damage bytes None =
    done (bytes ∷ damaged_places damage bytes ∷ [])

abbrev pub hurt_outcome : List Damage → ℕ → Outcome
hurt_outcome damage bytes = hurt_end damage bytes (first_past damage bytes)

-- The recipe: each byte that an entry covers becomes that entry's `put`. Where an entry ends past the end of the file,
-- all bytes are written.
abbrev pub hurting : List Damage → Recipe
hurting damage = record {
  allows = λ k byte. true;
  made = λ file. only (hurt damage file);
  rest = λ file. only [];
  answer = λ file loose. hurt_outcome damage (length file);
}

-- the meaning for files of these names, where `output` is neither of the others
abbrev pub hurt_file : List ℕ → List ℕ → List ℕ → Files → Meaning
hurt_file input changes output held =
    under_changes 1 (get held changes) (λ damage.
    meaning single_bytes (hurting damage) 0 (output ∷ []) (get held input))

-- the stages: the changes are read before OUT is begun
abbrev pub hurt_stages : List ℕ → List ℕ → List ℕ → Stages
hurt_stages input changes output = stages_under changes_of changes single_bytes hurting input (output ∷ [])

-- the command `hurt IN CHANGES OUT`
abbrev pub hurt_job : Job
hurt_job = combine_job Hurt hurt_file hurt_stages
