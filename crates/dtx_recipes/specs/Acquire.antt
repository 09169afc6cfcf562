-- What `acquire SCALE IN OUT` means: it writes the segments that are acquired of a capture's symbols (the profile's
-- own).
use Rattle.std.specs.Prelude.{ℕ, ℤ, ◌-◌, ◌*◌, List, [], ◌∷◌, length}
use Rattle.dtx_acquire.specs.Acquired.{acquired, acquired_cost, acquired_rest, acquired_runs, acquired_so_far}
use Rattle.dtx_engine.specs.Recipe.{Recipe}
use Rattle.dtx_meaning.specs.declared.status.Outcome.{Outcome}
use Rattle.dtx_words.specs.declared.rows.Command.TheVariants.{Acquire}
use Rattle.dtx_forms.specs.Capture.{scaled_job}
use Rattle.dtx_forms.specs.Job.{Job}
use Rattle.dtx_forms.specs.Shapes as shapes
use Rattle.dtx_recipes.specs.Restoring.{Restoring, restoring_by}
use Rattle.dtx_recipes.specs.Synced.{synced}

-- the line's numbers: the bytes, the runs of which something is left, the segments, what all least paths cost, and the
-- bytes in no segment
abbrev pub acquired_numbers : ℕ → ℕ → ℕ → ℕ → List ℕ
acquired_numbers symbols runs segments cost =
    symbols ∷ runs ∷ segments ∷ cost ∷ (symbols - 832 * segments) ∷ []

-- the answer: `NoSync` where there is no run
abbrev pub acquired_answer : ℕ → ℕ → ℕ → ℕ → Outcome
acquired_answer symbols runs segments cost = synced runs (acquired_numbers symbols runs segments cost)

abbrev pub acquire_answer : ℕ → List ℤ → Outcome
acquire_answer scale symbols =
    acquired_answer (length symbols) (acquired_runs symbols) (length (acquired scale symbols))
    (acquired_cost scale symbols)

-- what is made of a capture at a scale
abbrev pub with_acquirer : ℕ → Restoring
with_acquirer scale = record {
  so_far = acquired_so_far scale;
  rest = acquired_rest scale;
  answer = acquire_answer scale;
}

abbrev pub acquiring : ℕ → Recipe
acquiring scale = restoring_by (with_acquirer scale)

-- the command `acquire SCALE IN OUT`
abbrev pub acquire_job : Job
acquire_job = scaled_job Acquire shapes.single_bytes (λ scale rounds. acquiring scale)
