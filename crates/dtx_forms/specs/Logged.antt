-- What a command is that makes OUT and LOG of IN, where the input has units of a shape, and a recipe says what is made
-- of them.
use Rattle.std.specs.Prelude.{ℕ, List, [], ◌∷◌, Option, Some, None}
use Rattle.std.specs.FinMap.{get}
use Rattle.dtx_engine.specs.Recipe.{Recipe, meaning}
use Rattle.dtx_engine.specs.declared.engine.Shape.{Shape}
use Rattle.dtx_meaning.specs.Meaning.{Meaning}
use Rattle.dtx_outside.specs.Shelf.{Files}
use Rattle.dtx_words.specs.Names.{repeated}
use Rattle.dtx_words.specs.declared.rows.Command.{Command}
use Rattle.dtx_words.specs.declared.rows.Field.TheVariants.{Input, Output, Number}
use Rattle.dtx_forms.specs.Job.{Job, Task, job_of_task, unless_same}
use Rattle.dtx_forms.specs.Stages.{stages_of}
use Rattle.dtx_words.specs.Fitting.{number_in}

-- what is meant with these files
abbrev pub logged : Shape → Recipe → List ℕ → List ℕ → List ℕ → Files → Meaning
logged shape recipe input output log held =
    unless_same (repeated (input ∷ output ∷ log ∷ [])) (meaning shape recipe 0 (output ∷ log ∷ []) (get held input))

-- the task with these files
abbrev pub two_outputs : Shape → Recipe → List ℕ → List ℕ → List ℕ → Task
two_outputs shape recipe input output log =
    record { means = logged shape recipe input output log; stages = stages_of shape recipe input (output ∷ log ∷ []) }

-- the task of the words `.. IN OUT LOG`
abbrev pub logged_task : Shape → Recipe → List (List ℕ) → Option Task
logged_task shape recipe (verb ∷ input ∷ output ∷ log ∷ []) = Some (two_outputs shape recipe input output log)
logged_task shape recipe words = None

-- their job
abbrev pub logged_job : Command → Shape → Recipe → Job
logged_job command shape recipe = job_of_task command (Input ∷ Output ∷ Output ∷ []) 1 (logged_task shape recipe)

-- the task once the words of the address and of the delay were read: either may be no number
abbrev pub transmit_with : Shape → (ℕ → ℕ → Recipe) → Option ℕ → Option ℕ → List ℕ → List ℕ → List ℕ → Option Task
transmit_with shape sends None delay input output log = None
transmit_with shape sends (Some address) None input output log = None
transmit_with shape sends (Some address) (Some delay) input output log =
    Some (two_outputs shape (sends address delay) input output log)

-- the task of these words: the address is at most 65,535, the delay at most 2^32 - 1
abbrev pub transmit_task : Shape → (ℕ → ℕ → Recipe) → List (List ℕ) → Option Task
transmit_task shape sends (verb ∷ input ∷ address ∷ delay ∷ output ∷ log ∷ []) =
    transmit_with shape sends (number_in 65535 address) (number_in 4294967295 delay) input output log
transmit_task shape sends words = None

-- the job of these words
abbrev pub transmit_job : Command → Shape → (ℕ → ℕ → Recipe) → Job
transmit_job command shape sends =
    job_of_task command (Input ∷ Number 65535 ∷ Number 4294967295 ∷ Output ∷ Output ∷ []) 1
    (transmit_task shape sends)
