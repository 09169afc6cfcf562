-- The job of a command that makes OUT from a capture IN, of the words `.. SCALE IN OUT` or `.. SCALE ROUNDS IN OUT`.
-- The shape says in which units IN is read. `makes` gives the recipe for a scale and a number of rounds.
use Rattle.std.specs.Prelude.{ℕ, ◌≤◌, List, [], ◌∷◌, Option, Some, None}
use Rattle.dtx_engine.specs.Recipe.{Recipe}
use Rattle.dtx_engine.specs.declared.engine.Shape.{Shape}
use Rattle.dtx_words.specs.Fitting.{number_within}
use Rattle.dtx_words.specs.declared.rows.Command.{Command}
use Rattle.dtx_words.specs.declared.rows.Field.TheVariants.{Input, Output, Within}
use Rattle.dtx_forms.specs.Job.{Job, Task, job_of_task}
use Rattle.dtx_forms.specs.Transform.{one_output}
use Rattle.dtx_forms.specs.declared.capturing.Setting.{Setting}

-- a scale: so many steps of a capture make a unit of the standard's levels
abbrev pub IsScale : ℕ → Type 0
IsScale scale = (1 ≤ scale) × (scale ≤ 18)

-- a number of rounds
abbrev pub IsRounds : ℕ → Type 0
IsRounds rounds = (1 ≤ rounds) × (rounds ≤ 32)

-- both are in their ranges
pub record IsSetting (setting : Setting) : Type 0 where
  pub scale : IsScale setting.scale
  pub rounds : IsRounds setting.rounds

-- the setting that the words of the numbers give: either may be no number in its range
abbrev pub setting_of : Option ℕ → Option ℕ → Option Setting
setting_of (Some scale) (Some rounds) = Some (record { scale = scale; rounds = rounds })
setting_of (Some scale) None = None
setting_of None rounds = None

-- the task once these words were read
abbrev pub captured : Shape → (ℕ → ℕ → Recipe) → Option Setting → List ℕ → List ℕ → Option Task
captured shape makes None input output = None
captured shape makes (Some setting) input output =
    Some (one_output shape (makes setting.scale setting.rounds) input output)

-- the task of the words `.. SCALE IN OUT`; the recipe is that of one round
abbrev pub scaled_task : Shape → (ℕ → ℕ → Recipe) → List (List ℕ) → Option Task
scaled_task shape makes (verb ∷ scale ∷ input ∷ output ∷ []) =
    captured shape makes (setting_of (number_within 1 18 scale) (Some 1)) input output
scaled_task shape makes words = None

-- their job
abbrev pub scaled_job : Command → Shape → (ℕ → ℕ → Recipe) → Job
scaled_job command shape makes =
    job_of_task command (Within 1 18 ∷ Input ∷ Output ∷ []) 1 (scaled_task shape makes)

-- the task of the words `.. SCALE ROUNDS IN OUT`
abbrev pub rounds_task : Shape → (ℕ → ℕ → Recipe) → List (List ℕ) → Option Task
rounds_task shape makes (verb ∷ scale ∷ rounds ∷ input ∷ output ∷ []) =
    captured shape makes (setting_of (number_within 1 18 scale) (number_within 1 32 rounds)) input output
rounds_task shape makes words = None

-- their job
abbrev pub rounds_job : Command → Shape → (ℕ → ℕ → Recipe) → Job
rounds_job command shape makes =
    job_of_task command (Within 1 18 ∷ Within 1 32 ∷ Input ∷ Output ∷ []) 1 (rounds_task shape makes)
