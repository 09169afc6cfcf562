-- The line that a call prints at its end: its text, with a name and numbers, and how much of it was printed.
use Rattle.std.specs.Prelude.{◌≡◌, ◌≢◌, ◌⊎◌, ℕ, ◌≤◌, List, length, take, Option, Some, None}
use Rattle.dtx_outside.specs.Counts.{Rose}
use Rattle.dtx_outside.specs.Shelf.{Files}
use Rattle.dtx_outside.specs.Sink.{SinkCounts}
use Rattle.dtx_meaning.specs.declared.status.Outcome.{Outcome}
use Rattle.dtx_meaning.specs.declared.status.Status.{Status}
use Rattle.dtx_meaning.specs.declared.status.Status.TheVariants.{Done, WriteFault, Memory}
use Rattle.dtx_words.specs.Line.{line_at}
use Rattle.dtx_words.specs.Names.{line_name, names_of}
use Rattle.dtx_words.specs.Printed.{printed}
use Rattle.dtx_words.specs.Rows.{row_of}
use Rattle.dtx_words.specs.declared.rows.Command.{Command}
use Rattle.dtx_words.specs.declared.rows.Command.TheVariants.{Net, Trial}
use Rattle.dtx_top.specs.Jobs.{means_of}
use Rattle.dtx_top.specs.NetAnswers.{ShowsNetwork}
use Rattle.dtx_top.specs.NetNames.{net_names, plan_word, told_name, IsUntoldName}
use Rattle.dtx_top.specs.Trial.{trial_names}

-- ---- which line

-- The file names of a command among which the line of a status has one. They are those among its words. Of `trial` they
-- are those of its inputs. Of `net` they are PLAN and those that the plan gives.
abbrev pub names_told : Status → Option Command → List (List ℕ) → Files → List (List ℕ)
names_told status (Some Net) words held = net_names status words held
names_told status (Some Trial) words held = trial_names
names_told status command words held = names_of command words

-- The text is the line of this status, for these words over these files, with the numbers of their meaning. The status
-- is `Done` only where the meaning is done.
pub record IsToldLine (command : Option Command) (words : List (List ℕ)) (held : Files) (status : Status)
    (text : List ℕ) : Type 0 where
  pub done : status ≡ Done → (means_of command words held).outcome.status ≡ Done
  pub line : text ≡ line_at command status (means_of command words held).outcome
      (line_name status (names_told status command words held))

-- The name in a line: one among the words. Of `trial` it is one of its inputs. Of `net` it is the name that it keeps,
-- or PLAN where that isn't there.
abbrev pub name_kept : Option Command → List (List ℕ) → Status → List ℕ → List ℕ
name_kept (Some Net) words status kept = told_name (plan_word words) status kept
name_kept (Some Trial) words status kept = line_name status trial_names
name_kept command words status kept = line_name status (names_of command words)

-- this name may stand in the line of this status, whatever the files are
abbrev pub IsSomeName : Option Command → List (List ℕ) → Status → List ℕ → Type 0
IsSomeName (Some Net) words status name = IsUntoldName (plan_word words) status name
IsSomeName (Some Trial) words status name = name ≡ line_name status trial_names
IsSomeName command words status name = name ≡ line_name status (names_of command words)

-- How many numbers the line may have: three or six where `net` is done. Of other commands it has one for each label of
-- their rows. Words that fit no command are never done.
abbrev pub IsSomeCount : Option Command → Status → Outcome → Type 0
IsSomeCount None status outcome = status ≢ Done
IsSomeCount (Some Net) status outcome = ShowsNetwork status outcome
IsSomeCount (Some command) status outcome = status ≡ Done → length outcome.numbers ≡ length (row_of command).labels

-- The text is a line of this status for these words, whatever the files are. The values of its numbers are left open.
pub record IsSomeLine (command : Option Command) (words : List (List ℕ)) (status : Status)
    (text : List ℕ) : Type 0 where
  pub outcome : Outcome
  pub name : List ℕ
  pub named : IsSomeName command words status name
  pub count : IsSomeCount command status outcome
  pub line : text ≡ line_at command status outcome name

-- ---- how much of it

-- a line of this status was printed whole
pub record HasWholeLine (IsLine : Status → List ℕ → Type 0) (status : Status) (old new : Option (List ℕ)) : Type 0 where
  pub text : List ℕ
  pub line : IsLine status text
  pub whole : new ≡ printed text old

-- a prefix of a line of this status was printed
pub record HasPartLine (IsLine : Status → List ℕ → Type 0) (status : Status) (old new : Option (List ℕ)) : Type 0 where
  pub text : List ℕ
  pub line : IsLine status text
  pub bytes : ℕ
  pub within : bytes ≤ length text
  pub part : new ≡ printed (take bytes text) old

-- a line of this status was printed whole, and the sink refused nothing; or the sink failed, and a prefix was printed
abbrev pub HasPrinted : (Status → List ℕ → Type 0) → Status → SinkCounts → SinkCounts → Option (List ℕ)
    → Option (List ℕ) → Type 0
HasPrinted IsLine status first last old new =
    ((last ≡ first) × HasWholeLine IsLine status old new)
    ⊎ (Rose first.faults last.faults × HasPartLine IsLine status old new)

-- What a call with this status printed. It is the whole line of the status, or a prefix of it where the sink failed.
-- After `Done` the line is always whole. After `WriteFault` it may also be a prefix of the line of `Done`, where
-- printing that failed. After `Memory` it may also be a prefix of any line, where the sink lacked memory for it.
abbrev pub HasLine : (Status → List ℕ → Type 0) → Status → SinkCounts → SinkCounts → Option (List ℕ)
    → Option (List ℕ) → Type 0
HasLine IsLine Done first last old new = (last ≡ first) × HasWholeLine IsLine Done old new
HasLine IsLine WriteFault first last old new =
    HasPrinted IsLine WriteFault first last old new
    ⊎ (Rose first.faults last.faults × HasPartLine IsLine Done old new)
HasLine IsLine Memory first last old new =
    HasPrinted IsLine Memory first last old new
    ⊎ (Rose first.shortages last.shortages × ((status : Status) × HasPartLine IsLine status old new))
HasLine IsLine status first last old new = HasPrinted IsLine status first last old new
