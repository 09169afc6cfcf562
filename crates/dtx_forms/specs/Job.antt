-- A job is a command whose words alone name its files. `IsPerformed` says that it was performed: one statement for all.
use Rattle.std.specs.Prelude.{ℕ, Bool, if◌then◌else◌, is_some, List, Option, Some, None, IfSome}
use Rattle.dtx_meaning.specs.Meaning.{IsCarriedOut, Meaning, refused}
use Rattle.dtx_meaning.specs.Status.{blame_of}
use Rattle.dtx_meaning.specs.declared.status.Outcome.{Outcome}
use Rattle.dtx_meaning.specs.declared.status.Status.TheVariants.{Same, Usage}
use Rattle.dtx_outside.specs.Counts.{Counts, HasGone}
use Rattle.dtx_outside.specs.Shelf.{Files}
use Rattle.dtx_words.specs.declared.rows.Command.{Command}
use Rattle.dtx_words.specs.declared.rows.Field.{Field}
use Rattle.dtx_forms.specs.Answers.{IsKnown, IsOfWords, same_in}
use Rattle.dtx_forms.specs.Stages.{Stages}

-- Which command it is, what the words behind the first one stand for, what it means with some words, how many inputs
-- it has, and in which stages it reads and writes. The stages are nothing where the words don't fit.
pub record Job : Type 0 where
  pub command : Command
  pub fields : List Field
  pub means : List (List ℕ) → Files → Meaning
  pub inputs : ℕ
  pub stages : List (List ℕ) → Option Stages

-- The command did what it means. Where the files are told, it did all of it, or there was an I/O error or out of
-- memory. In that case its first outputs, perhaps none, hold prefixes of their bytes. Every other file is as before.
-- Whether the files are told or not, the words allow the answer, the command knows it, and no count fell. The count
-- that the answer is blamed on rose. Where it is blamed on nothing, as out of memory is, all counts are as before.
pub record IsPerformed (command : Command) (means : Files → Meaning) (same : Option Bool) (inputs : ℕ)
    (outcome : Outcome) (told now : Option Files) (before after : Counts) : Type 0 where
  pub carried : IfSome told (λ held. IsCarriedOut (means held) (Some held) outcome now)
  pub words : IsOfWords same inputs outcome.status
  pub answers : IsKnown command outcome
  pub gone : HasGone before after (blame_of outcome.status)

-- the job was performed with these words
abbrev pub IsJobPerformed : Job → List (List ℕ) → Outcome → Option Files → Option Files → Counts → Counts → Type 0
IsJobPerformed job words = IsPerformed job.command (job.means words) (same_in job.fields words) job.inputs

-- what a job does once its words were read: what it means, and in which stages it reads and writes
pub record Task : Type 0 where
  pub means : Files → Meaning
  pub stages : Stages

-- what is meant: words that can't be read are refused
abbrev pub task_meaning : Option Task → Files → Meaning
task_meaning None held = refused Usage
task_meaning (Some task) held = task.means held

-- the stages
abbrev pub task_stages : Option Task → Option Stages
task_stages None = None
task_stages (Some task) = Some task.stages

-- the job of a command that reads its words so
abbrev pub job_of_task : Command → List Field → ℕ → (List (List ℕ) → Option Task) → Job
job_of_task command fields inputs task = record {
  command = command;
  fields = fields;
  means = λ words. task_meaning (task words);
  inputs = inputs;
  stages = λ words. task_stages (task words);
}

-- a refusal where a name was found to be repeated, and else the meaning
abbrev pub unless_same : Option (List ℕ) → Meaning → Meaning
unless_same twice means = if is_some twice then refused Same else means
