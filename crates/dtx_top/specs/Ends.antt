-- How a call ends, whether or not its line was printed: which counts have risen, and that each refusal has its cause.
use Rattle.std.specs.Prelude.{◌≡◌, ◌⊎◌, ℕ, zero, suc, ◌≤◌, false, is_some, List, [], ◌∷◌, Option, Some, None}
use Rattle.std.specs.Prelude.{IfSome}
use Rattle.dtx_outside.specs.Counts.{Counts, HasGone, Rose}
use Rattle.dtx_outside.specs.Shelf.{Files}
use Rattle.dtx_outside.specs.Sink.{SinkCounts}
use Rattle.dtx_meaning.specs.Meaning.{IsCarriedOut}
use Rattle.dtx_meaning.specs.Status.{IsOfInputs, blame_of}
use Rattle.dtx_meaning.specs.declared.status.Outcome.{Outcome}
use Rattle.dtx_meaning.specs.declared.status.Status.{Status}
use Rattle.dtx_meaning.specs.declared.status.Status.TheVariants.{Done, Usage, Absent, ReadFault, WriteFault, Memory}
use Rattle.dtx_forms.specs.Answers.{IsKnown, Knows, IsOfWords, same_in}
use Rattle.dtx_forms.specs.Job.{Job}
use Rattle.dtx_words.specs.Names.{line_name, names_of, repeated}
use Rattle.dtx_words.specs.Rows.{row_of}
use Rattle.dtx_words.specs.declared.rows.Command.{Command}
use Rattle.dtx_words.specs.declared.rows.Command.TheVariants.{Net, Trial}
use Rattle.dtx_words.specs.declared.rows.Field.{Field}
use Rattle.dtx_words.specs.declared.rows.Field.TheVariants.{Input}
use Rattle.dtx_top.specs.HeadlineOfFiles.{HasHeadline}
use Rattle.dtx_top.specs.Jobs.{job_of, means_of}
use Rattle.dtx_top.specs.Lines.{IsSomeName, name_kept, names_told}
use Rattle.dtx_top.specs.NetAnswers.{IsOfNetWords, IsOfNetwork, ShowsNetwork}
use Rattle.dtx_top.specs.NetProgress.{HasProgress}
use Rattle.dtx_top.specs.Trial.{HasTrialHeadline, HasTrialProgress}

-- The cause of an answer, as the counts of the shelf and of the sink show it. After `Done` all counts stand, so no I/O
-- error was met. After `Absent` and `ReadFault` their count has risen. After `WriteFault` its count has risen, or only
-- the sink's count has: then the line of `Done` could not be printed. After any other answer the shelf's counts stand.
-- The only exception is `Memory` where the sink lacked memory for the line. So lack of memory hides no I/O error and no
-- absent file that the shelf counted, unless the sink's own count tells it.
abbrev pub HasCause : Status → Counts → Counts → SinkCounts → SinkCounts → Type 0
HasCause Done before now first last = (now ≡ before) × (last ≡ first)
HasCause (Absent input) before now first last = Rose before.misses now.misses
HasCause ReadFault before now first last = Rose before.read_faults now.read_faults
HasCause WriteFault before now first last =
    Rose before.write_faults now.write_faults ⊎ ((now ≡ before) × Rose first.faults last.faults)
HasCause Memory before now first last = (now ≡ before) ⊎ Rose first.shortages last.shortages
HasCause status before now first last = now ≡ before

-- no count fell, and the answer has its cause
pub record HasEnded (before now : Counts) (first last : SinkCounts) (status : Status) : Type 0 where
  pub read_faults : before.read_faults ≤ now.read_faults
  pub write_faults : before.write_faults ≤ now.write_faults
  pub misses : before.misses ≤ now.misses
  pub faults : first.faults ≤ last.faults
  pub shortages : first.shortages ≤ last.shortages
  pub cause : HasCause status before now first last

-- The command was done, and its line was printed, or printing it failed. `WriteFault` says the second where no error of
-- writing a file was counted.
abbrev pub IsAllDone : Status → Counts → Counts → Type 0
IsAllDone status before now = (status ≡ Done) ⊎ ((status ≡ WriteFault) × ¬ Rose before.write_faults now.write_faults)

-- no I/O error was counted, of reading, of writing, or of printing
pub record IsFaultless (before now : Counts) (first last : SinkCounts) : Type 0 where
  pub reading : ¬ Rose before.read_faults now.read_faults
  pub writing : ¬ Rose before.write_faults now.write_faults
  pub printing : ¬ Rose first.faults last.faults

-- the headline, where the command plays a network: `net` and `trial` do
abbrev pub HasHeadlineOf : Option Command → List (List ℕ) → Files → Option Files → Type 0
HasHeadlineOf (Some Net) words held now = HasHeadline words held now
HasHeadlineOf (Some Trial) words held now = HasTrialHeadline words held now
HasHeadlineOf command words held now = Unit {0}

-- how far a network came, where the command plays one
abbrev pub HasProgressOf : Option Command → List (List ℕ) → Files → Status → Option Files → Type 0
HasProgressOf (Some Net) words held status now = HasProgress words held status now
HasProgressOf (Some Trial) words held status now = HasTrialProgress words held status now
HasProgressOf command words held status now = Unit {0}

-- ---- what the words alone say of the answer

-- how many of these fields are inputs
abbrev pub inputs_among : List Field → ℕ
inputs_among [] = zero
inputs_among (Input ∷ fields) = suc (inputs_among fields)
inputs_among (field ∷ fields) = inputs_among fields

-- Words that fit no command are answered `Usage`, or `Memory` where memory runs out. No others are answered `Usage`.
-- Words that fit are answered `Same` only where two of the command's file names are equal, and then always, unless
-- memory runs out. An absent input is one that the words name, and each refusal is one that the command can give
-- (`Knows`). The plan of `net` names further files. So of its answer only this is said: it isn't `Usage`, and an absent
-- input is one of the four that it reads. The words of `trial` name no file. It is never answered `Same`, and an absent
-- input is one of the three that it reads.
abbrev pub IsByWords : Option Command → List (List ℕ) → Status → Type 0
IsByWords None words status = (status ≡ Usage) ⊎ (status ≡ Memory)
IsByWords (Some Net) words status = IsOfNetwork status
IsByWords (Some Trial) words status = IsOfInputs false 3 status × Knows Trial status
IsByWords (Some command) words status =
    IsOfInputs (is_some (repeated (names_of (Some command) words))) (inputs_among (row_of command).fields) status
    × Knows command status

-- what the words alone say of the answer of a job, and of `net`, which has no job
abbrev pub IsOfJob : Option Job → List (List ℕ) → Outcome → Type 0
IsOfJob (Some job) words outcome =
    IsOfWords (same_in job.fields words) job.inputs outcome.status × IsKnown job.command outcome
IsOfJob None words outcome = IsOfNetWords words outcome.status

-- the same of a command, before its line is printed
abbrev pub IsOfCommand : Option Command → List (List ℕ) → Outcome → Type 0
IsOfCommand None words outcome = outcome.status ≡ Usage
IsOfCommand (Some command) words outcome = IsOfJob (job_of command) words outcome

-- ---- a command, but for its line

-- A command was performed, but for its line. The name `kept` stands in this line where the words don't give the name.
-- If the files are told, the meaning of the words was carried out, a network came as far as `HasProgressOf` says, and
-- the headline holds after `Done`. Told or not, the answer is one that the words allow, and the counts are those of the
-- answer.
pub record IsCommandPerformed (command : Option Command) (words : List (List ℕ)) (outcome : Outcome) (kept : List ℕ)
    (told now : Option Files) (before after : Counts) : Type 0 where
  pub carried : IfSome told (λ held. IsCarriedOut (means_of command words held) (Some held) outcome now)
  pub gone : HasGone before after (blame_of outcome.status)
  pub answer : IsOfCommand command words outcome
  pub name : command ≡ Some Net → IfSome told (λ held. name_kept command words outcome.status kept
      ≡ line_name outcome.status (names_told outcome.status command words held))
  pub untold_name : command ≡ Some Net → IsSomeName command words outcome.status
      (name_kept command words outcome.status kept)
  pub shown : command ≡ Some Net → ShowsNetwork outcome.status outcome
  pub progress : IfSome told (λ held. HasProgressOf command words held outcome.status now)
  pub headline : IfSome told (λ held. outcome.status ≡ Done → HasHeadlineOf command words held now)
