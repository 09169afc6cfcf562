-- A command was performed, since its job was.
use Rattle.std.proofs.Common.{arith}
use Rattle.std.specs.Prelude.{◌≡◌, ◌≢◌, ℕ, List, Option, Some}
use Rattle.dtx_meaning.specs.declared.status.Outcome.{Outcome}
use Rattle.dtx_meaning.specs.declared.status.Status.TheVariants.{Done}
use Rattle.dtx_outside.specs.Counts.{Counts}
use Rattle.dtx_outside.specs.Shelf.{Files}
use Rattle.dtx_forms.specs.Job.{Job, IsJobPerformed}
use Rattle.dtx_words.specs.declared.rows.Command.{Command}
use Rattle.dtx_words.specs.declared.rows.Command.TheVariants.{Net, Trial}
use Rattle.dtx_top.specs.Ends.{HasHeadlineOf, HasProgressOf, IsCommandPerformed}
use Rattle.dtx_top.specs.Jobs.{job_of}

-- a job of a command that plays no network
of_job : (command : Command) (job : Job) (words : List (List ℕ)) (outcome : Outcome) (kept : List ℕ)
    (told now : Option Files) (before after : Counts) → job_of command ≡ Some job → Some command ≢ Some Net
    → ((held : Files) → HasProgressOf (Some command) words held outcome.status now)
    → ((held : Files) → outcome.status ≡ Done → HasHeadlineOf (Some command) words held now)
    → IsJobPerformed job words outcome told now before after
    → IsCommandPerformed (Some command) words outcome kept told now before after
of_job command job words outcome kept told now before after is other progress headline done = grind arith

-- the command plays no network
abbrev IsPlain : Command → Type 0
IsPlain Net = ⊥
IsPlain Trial = ⊥
IsPlain command = Unit {0}

-- the outcome of a job is that of its command
pub performed : (command plain : Command) (job : Job) (words : List (List ℕ)) (outcome result : Outcome) (kept : List ℕ)
    (told now : Option Files) (before after : Counts)
    → command ≡ plain → IsPlain plain → job_of plain ≡ Some job → result ≡ outcome
    → IsJobPerformed job words outcome told now before after
    → IsCommandPerformed (Some command) words result kept told now before after
performed command plain job words outcome result kept told now before after same is_plain is same_outcome done =
    grind (arith, of_job)
