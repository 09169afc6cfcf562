-- The lines that are printed at the end.
use Rattle.std.specs.Prelude.{ℕ, List, [], ◌∷◌, ◌++◌, codes, decimal, Option, Some, None, Result, Ok, Err}
use Rattle.dtx_outside.specs.declared.sink.SinkNo.{SinkNo}
use Rattle.dtx_outside.specs.declared.sink.SinkNo.TheVariants as sink
use Rattle.dtx_plan.specs.Words.{key_word, rule_word}
use Rattle.dtx_meaning.specs.declared.status.Outcome.{Outcome}
use Rattle.dtx_meaning.specs.declared.status.Status.{Status}
use Rattle.dtx_meaning.specs.declared.status.Status.TheVariants.{Done, Usage, Same, Absent, Plan, Packet, TooLong}
use Rattle.dtx_meaning.specs.declared.status.Status.TheVariants.{OutOfFeed, OutOfAir, NoSync, ReadFault, WriteFault}
use Rattle.dtx_meaning.specs.declared.status.Status.TheVariants.{Memory}
use Rattle.dtx_words.specs.Rows.{row_of, first_words}
use Rattle.dtx_words.specs.declared.rows.Command.{Command}

-- each label that has a number, followed by that
abbrev pub numbered : List (List ℕ) → List ℕ → List ℕ
numbered [] numbers = []
numbered (label ∷ labels) [] = []
numbered (label ∷ labels) (number ∷ numbers) = label ++ (decimal number ++ numbered labels numbers)

-- the labels of a command's row
abbrev pub labels_of : Option Command → List (List ℕ)
labels_of None = []
labels_of (Some command) = (row_of command).labels

-- the first words of some commands, with `before` in front and a bar between them
abbrev pub verbs_behind : List ℕ → List Command → List ℕ
verbs_behind before [] = []
verbs_behind before (command ∷ rest) = before ++ ((row_of command).verb ++ verbs_behind (codes "|") rest)

-- `usage: dtx` and each first word of a command once
abbrev pub usage_line : List ℕ
usage_line = verbs_behind (codes "usage: dtx ") first_words ++ codes "\n"

-- the line of a command that is done: its labels with their numbers
abbrev pub done_line : Option Command → Outcome → List ℕ
done_line command outcome = numbered (labels_of command) outcome.numbers ++ codes "\n"

-- the line of a refusal that has neither a name nor a number
abbrev pub bare_line : Status → List ℕ
bare_line TooLong = codes "too long\n"
bare_line NoSync = codes "no sync\n"
bare_line ReadFault = codes "read fault\n"
bare_line WriteFault = codes "write fault\n"
bare_line Memory = codes "no memory\n"
bare_line _ = []

-- the line of a refusal, with its name where it has one
abbrev pub refusal_line : Status → List ℕ → List ℕ
refusal_line Usage name = usage_line
refusal_line Same name = codes "same " ++ name ++ codes "\n"
refusal_line (Absent input) name = codes "absent " ++ name ++ codes "\n"
refusal_line (Plan refusal) name =
    codes "plan " ++ key_word refusal.key ++ codes " " ++ decimal refusal.item ++ codes " " ++ rule_word refusal.rule
    ++ codes "\n"
refusal_line (Packet k) name = codes "packet " ++ decimal k ++ codes "\n"
refusal_line (OutOfFeed event) name = codes "out of feed " ++ decimal event ++ codes "\n"
refusal_line (OutOfAir entry) name = codes "out of air " ++ decimal entry ++ codes "\n"
refusal_line status name = bare_line status

-- the line of a status: `Done` has the numbers of the outcome, and a refusal may have the name
abbrev pub line_at : Option Command → Status → Outcome → List ℕ → List ℕ
line_at command Done outcome name = done_line command outcome
line_at command status outcome name = refusal_line status name

-- the line of an outcome
abbrev pub line_of : Option Command → Outcome → List ℕ → List ℕ
line_of command outcome name = line_at command outcome.status outcome name

-- The final status, given how printing the line ended. Where the sink lacked memory it is `Memory`. Where it failed,
-- only `Done` becomes another one.
abbrev pub finished : Status → Result (Unit {0}) SinkNo → Status
finished status (Ok _) = status
finished status (Err sink.Memory) = Memory
finished Done (Err sink.Failed) = WriteFault
finished status (Err sink.Failed) = status
