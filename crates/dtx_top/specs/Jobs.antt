-- The job of each command, what words mean, and in which stages a command works.
use Rattle.std.specs.Prelude.{Option, Some, None, ◌≡◌, List, ℕ}
use Rattle.dtx_words.specs.declared.rows.Command.{Command}
use Rattle.dtx_words.specs.declared.rows.Command.TheVariants.{Adapt, Code, Excite, Receive, Net, Make, Hurt, Place}
use Rattle.dtx_words.specs.declared.rows.Command.TheVariants.{Trial, Soft, Mend, DvbCode, DvbRead, Repeat}
use Rattle.dtx_words.specs.declared.rows.Command.TheVariants.{Acquire, Watch, Level, Refine}
use Rattle.dtx_forms.specs.Job.{Job}
use Rattle.dtx_recipes.specs.Adapt.{adapt_job}
use Rattle.dtx_recipes.specs.DvbCode.{dvb_code_job}
use Rattle.dtx_recipes.specs.DvbRead.{dvb_read_job}
use Rattle.dtx_recipes.specs.Hurt.{hurt_job}
use Rattle.dtx_recipes.specs.Make.{make_job}
use Rattle.dtx_recipes.specs.Place.{place_job}
use Rattle.dtx_recipes.specs.Acquire.{acquire_job}
use Rattle.dtx_recipes.specs.Code.{code_job}
use Rattle.dtx_recipes.specs.Excite.{excite_job}
use Rattle.dtx_recipes.specs.Level.{level_job}
use Rattle.dtx_recipes.specs.Mend.{mend_job}
use Rattle.dtx_recipes.specs.Receive.{receive_job}
use Rattle.dtx_recipes.specs.Refine.{refine_job}
use Rattle.dtx_recipes.specs.Repeat.{repeat_job}
use Rattle.dtx_recipes.specs.Soft.{soft_job}
use Rattle.dtx_recipes.specs.Watch.{watch_job}
use Rattle.dtx_top.specs.Trial.{trial_job}
use Rattle.dtx_outside.specs.Counts.{Counts}
use Rattle.dtx_outside.specs.Foreseen.{Foreseen}
use Rattle.dtx_outside.specs.Shelf.{Files}
use Rattle.dtx_meaning.specs.declared.status.Status.{Status}
use Rattle.dtx_forms.specs.Stages.{IsStaged}
use Rattle.dtx_top.specs.NetNames.{plan_word}
use Rattle.dtx_meaning.specs.Meaning.{Meaning, refused}
use Rattle.dtx_meaning.specs.declared.status.Status.TheVariants.{Usage}
use Rattle.dtx_words.specs.Fitting.{command_of}
use Rattle.dtx_top.specs.NetMeaning.{net_meaning}

-- The job of a command. `net` has none, since its plan and not its words says which files it reads and writes.
abbrev pub job_of : Command → Option Job
job_of Adapt = Some adapt_job
job_of Code = Some code_job
job_of Excite = Some excite_job
job_of Receive = Some receive_job
job_of Net = None
job_of Make = Some make_job
job_of Hurt = Some hurt_job
job_of Place = Some place_job
job_of Trial = Some trial_job
job_of Soft = Some soft_job
job_of Mend = Some mend_job
job_of DvbCode = Some dvb_code_job
job_of DvbRead = Some dvb_read_job
job_of Repeat = Some repeat_job
job_of Acquire = Some acquire_job
job_of Watch = Some watch_job
job_of Level = Some level_job
job_of Refine = Some refine_job

-- Of a job, its stages. Of `net`, which has no job: its plan is read before an output is begun. So where no byte of it
-- can be read, each file is as before.
abbrev pub HasStagesOfJob : Foreseen → Option Job → List (List ℕ) → Status → Option Files → Option Files → Counts
    → Counts → Type 0
HasStagesOfJob foreseen (Some job) words status told now before after =
    IsStaged foreseen (job.stages words) status told now before after
HasStagesOfJob foreseen None words status told now before after =
    foreseen.readable (plan_word words) ≡ Some 0 → now ≡ told

-- the same of the command that the words fit, and nothing where they fit none
abbrev pub HasStagesOf : Foreseen → Option Command → List (List ℕ) → Status → Option Files → Option Files → Counts
    → Counts → Type 0
HasStagesOf foreseen None words status told now before after = Unit {0}
HasStagesOf foreseen (Some command) words status told now before after =
    HasStagesOfJob foreseen (job_of command) words status told now before after

-- what words mean for a job, and for `net`, which has no job
abbrev pub means_of_job : Option Job → List (List ℕ) → Files → Meaning
means_of_job (Some job) words held = job.means words held
means_of_job None words held = net_meaning words held

-- what the words mean if they fit this command, or fit none
abbrev pub means_of : Option Command → List (List ℕ) → Files → Meaning
means_of None words held = refused Usage
means_of (Some command) words held = means_of_job (job_of command) words held

-- what the words are answered and what they write where nothing fails: a function of the words and of the files
abbrev pub means : List (List ℕ) → Files → Meaning
means words held = means_of (command_of words) words held
