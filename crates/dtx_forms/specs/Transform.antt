-- The job of a command that makes OUT from IN alone, or from two inputs. The shape says in which units IN is read, and
-- the recipe what is made of them.
use Rattle.std.specs.Prelude.{ℕ, List, [], ◌∷◌, Option, Some, None}
use Rattle.dtx_engine.specs.Recipe.{Recipe, transformed}
use Rattle.dtx_engine.specs.declared.engine.Shape.{Shape}
use Rattle.dtx_words.specs.declared.rows.Command.{Command}
use Rattle.dtx_words.specs.declared.rows.Command.TheVariants.{DvbRead}
use Rattle.dtx_words.specs.declared.rows.Field.TheVariants.{Input, Output, Second}
use Rattle.dtx_words.specs.declared.rows.SecondWord.{SecondWord}
use Rattle.dtx_words.specs.declared.rows.SecondWord.TheVariants as second
use Rattle.dtx_forms.specs.Job.{Job, Task, job_of_task, unless_same}
use Rattle.dtx_forms.specs.Stages.{stages_of, Stages}
use Rattle.dtx_meaning.specs.Meaning.{Meaning}
use Rattle.dtx_outside.specs.Shelf.{Files}
use Rattle.dtx_words.specs.Names.{repeated}

-- the task with these files
abbrev pub one_output : Shape → Recipe → List ℕ → List ℕ → Task
one_output shape recipe input output =
    record { means = transformed shape recipe input output; stages = stages_of shape recipe input (output ∷ []) }

-- the task of the words `.. IN OUT`
abbrev pub transform_task : Shape → Recipe → List (List ℕ) → Option Task
transform_task shape recipe (verb ∷ input ∷ output ∷ []) = Some (one_output shape recipe input output)
transform_task shape recipe words = None

-- the task of the words `dvb .. IN OUT`
abbrev pub dvb_task : Shape → Recipe → List (List ℕ) → Option Task
dvb_task shape recipe (verb ∷ second ∷ input ∷ output ∷ []) = Some (one_output shape recipe input output)
dvb_task shape recipe words = None

-- the job of the words `.. IN OUT`
abbrev pub transform_job : Command → Shape → Recipe → Job
transform_job command shape recipe = job_of_task command (Input ∷ Output ∷ []) 1 (transform_task shape recipe)

-- the second word of a command that has one
abbrev pub second_word : Command → SecondWord
second_word DvbRead = second.Read
second_word command = second.Code

-- the job of the words `dvb .. IN OUT`
abbrev pub dvb_job : Command → Shape → Recipe → Job
dvb_job command shape recipe =
    job_of_task command (Second (second_word command) ∷ Input ∷ Output ∷ []) 1 (dvb_task shape recipe)

-- the meaning with files of these names: a refusal where two are equal, and else `means`
abbrev pub combined : (List ℕ → List ℕ → List ℕ → Files → Meaning) → List ℕ → List ℕ → List ℕ → Files → Meaning
combined means first second output held =
    unless_same (repeated (first ∷ second ∷ output ∷ [])) (means first second output held)

-- the task of the words `.. A B OUT`
abbrev pub combine_task : (List ℕ → List ℕ → List ℕ → Files → Meaning) → (List ℕ → List ℕ → List ℕ → Stages)
    → List (List ℕ) → Option Task
combine_task means stages (verb ∷ first ∷ second ∷ output ∷ []) =
    Some (record { means = combined means first second output; stages = stages first second output })
combine_task means stages words = None

-- their job
abbrev pub combine_job : Command → (List ℕ → List ℕ → List ℕ → Files → Meaning) → (List ℕ → List ℕ → List ℕ → Stages)
    → Job
combine_job command means stages = job_of_task command (Input ∷ Input ∷ Output ∷ []) 2 (combine_task means stages)
