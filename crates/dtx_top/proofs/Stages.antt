-- The stages of a command: from those of its job, and behind its line.
use Rattle.std.proofs.Common.{◌≡◌, ℕ, List, arith}
use Rattle.std.specs.Prelude.{Option, Some, None, Result}
use Rattle.dtx_outside.specs.Counts.{Counts}
use Rattle.dtx_outside.specs.Foreseen.{Foreseen}
use Rattle.dtx_outside.specs.Shelf.{Files}
use Rattle.dtx_outside.specs.declared.sink.SinkNo.{SinkNo}
use Rattle.dtx_outside.specs.declared.sink.SinkNo.TheVariants as sink
use Rattle.dtx_meaning.specs.declared.status.Outcome.{Outcome}
use Rattle.dtx_meaning.specs.declared.status.Status.{Status}
use Rattle.dtx_forms.specs.Job.{Job}
use Rattle.dtx_forms.specs.Stages.{IsStaged}
use Rattle.dtx_words.specs.Line.{finished}
use Rattle.dtx_words.specs.declared.rows.Command.{Command}
use Rattle.dtx_top.specs.Jobs.{job_of, HasStagesOf}
use Rattle.dtx_top.proofs.Ending.{finished_failed}

-- the stages of a job are those of its command
pub job_staged : (foreseen : Foreseen) (command plain : Command) (job : Job) (words : List (List ℕ))
    (outcome result : Outcome) (told now : Option Files) (before after : Counts)
    → command ≡ plain → job_of plain ≡ Some job → result ≡ outcome
    → IsStaged foreseen (job.stages words) outcome.status told now before after
    → HasStagesOf foreseen (Some command) words result.status told now before after
job_staged foreseen command plain job words outcome result told now before after same is same_outcome staged =
    rw (same, same_outcome, is) staged

-- ---- behind the line

-- the stages of a command whose line was printed so
pub stages_told : (foreseen : Foreseen) (command : Option Command) (words : List (List ℕ)) (status : Status)
    (line : Result (Unit {0}) SinkNo) (told now : Option Files) (before after : Counts)
    → HasStagesOf foreseen command words status told now before after
    → HasStagesOf foreseen command words (finished status line) told now before after
stages_told foreseen None words status line told now before after is = tt
stages_told foreseen (Some command) words status line told now before after is = grind (arith, finished_failed)
