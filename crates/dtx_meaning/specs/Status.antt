-- The codes of the statuses, which count each is blamed on, and the statuses of errors from other crates.
use Rattle.std.specs.Prelude.{◌≡◌, ℕ, ◌<◌, Bool, true, false, List, [], Result, Ok, Err, ◌-◌, ◌++◌, length, replicate}
use Rattle.dtx_outside.specs.Counts.{Blame, Nothing, Missing, Reading, Writing}
use Rattle.dtx_outside.specs.declared.shelf.ReadNo.{ReadNo}
use Rattle.dtx_outside.specs.declared.shelf.ReadNo.TheVariants as read
use Rattle.dtx_outside.specs.declared.shelf.WriteNo.{WriteNo}
use Rattle.dtx_outside.specs.declared.shelf.WriteNo.TheVariants as write
use Rattle.dtx_plan.specs.declared.refusal.PlanFault.{PlanFault}
use Rattle.dtx_plan.specs.declared.refusal.PlanFault.TheVariants as plan
use Rattle.dtx_meaning.specs.declared.status.Outcome.{Outcome}
use Rattle.dtx_meaning.specs.declared.status.Status.{Status}
use Rattle.dtx_meaning.specs.declared.status.Status.TheVariants.{Done, Usage, Same, Absent, Plan, Packet, TooLong}
use Rattle.dtx_meaning.specs.declared.status.Status.TheVariants.{OutOfFeed, OutOfAir, NoSync, ReadFault, WriteFault}
use Rattle.dtx_meaning.specs.declared.status.Status.TheVariants.{Memory}

-- the exit code of the program
abbrev pub code_of : Status → ℕ
code_of Done = 0
code_of Usage = 2
code_of Same = 3
code_of (Absent n) = 4
code_of (Plan refusal) = 5
code_of (Packet k) = 6
code_of TooLong = 7
code_of (OutOfFeed event) = 8
code_of (OutOfAir entry) = 9
code_of NoSync = 10
code_of ReadFault = 11
code_of WriteFault = 12
code_of Memory = 13

-- ---- the statuses of errors from other crates

-- the status after a refusal to read the input of this number
abbrev pub of_read : ℕ → ReadNo → Status
of_read input read.Absent = Absent input
of_read input read.Failed = ReadFault
of_read input read.Memory = Memory

-- the status after a refusal to write
abbrev pub of_write : WriteNo → Status
of_write write.Failed = WriteFault
of_write write.Memory = Memory

-- the status where no plan, or no list of changes, could be read
abbrev pub of_plan : PlanFault → Status
of_plan (plan.No refusal) = Plan refusal
of_plan plan.Memory = Memory

-- ---- what an answer is blamed on

-- Which count a status is blamed on. If it is blamed on nothing, all counts stand, and lack of memory is blamed on
-- nothing.
abbrev pub blame_of : Status → Blame
blame_of (Absent input) = Missing
blame_of ReadFault = Reading
blame_of WriteFault = Writing
blame_of _ = Nothing

-- which count an answer is blamed on
abbrev pub blame_of_answer : {T : Type 0} → Result T Status → Blame
blame_of_answer (Ok x) = Nothing
blame_of_answer (Err status) = blame_of status

-- The final answer where a call ended as `first`, and a later call was refused. Lack of memory doesn't replace an
-- answer that a count was raised for: an I/O error or an absent file.
abbrev pub refused_behind : Status → Status → Status
refused_behind (Absent input) Memory = Absent input
refused_behind ReadFault Memory = ReadFault
refused_behind WriteFault Memory = WriteFault
refused_behind first refusal = refusal

-- an answer other than an absent input
abbrev pub IsPresent : Status → Type 0
IsPresent (Absent input) = ⊥
IsPresent _ = Unit {0}

-- an I/O error, or out of memory: no meaning gives them
abbrev pub IsFault : Status → Type 0
IsFault ReadFault = Unit {0}
IsFault WriteFault = Unit {0}
IsFault Memory = Unit {0}
IsFault _ = ⊥

-- ---- what an answer says of the words

-- An answer that follows from the bytes of inputs that were read. It refuses no words, misses no input, and is neither
-- an I/O error nor out of memory.
abbrev pub IsOfBytes : Status → Type 0
IsOfBytes Usage = ⊥
IsOfBytes Same = ⊥
IsOfBytes (Absent input) = ⊥
IsOfBytes ReadFault = ⊥
IsOfBytes WriteFault = ⊥
IsOfBytes Memory = ⊥
IsOfBytes _ = Unit {0}

-- an answer of the input of this number alone: it refuses no words, and no other input is absent
abbrev pub IsOfInput : ℕ → Status → Type 0
IsOfInput number Usage = ⊥
IsOfInput number Same = ⊥
IsOfInput number (Absent input) = input ≡ number
IsOfInput number _ = Unit {0}

-- The answer where the words fit and name `inputs` inputs; `same` says whether two names are equal. If two are, the
-- answer is `Same` or out of memory. If none are, it isn't `Same`. An absent input is one of these inputs.
abbrev pub IsOfInputs : Bool → ℕ → Status → Type 0
IsOfInputs same inputs Usage = ⊥
IsOfInputs same inputs Same = same ≡ true
IsOfInputs same inputs Memory = Unit {0}
IsOfInputs same inputs (Absent input) = (same ≡ false) × (input < inputs)
IsOfInputs same inputs _ = same ≡ false

-- ---- outcomes

-- all was done, and the line has these numbers
abbrev pub done : List ℕ → Outcome
done numbers = record { status = Done; numbers = numbers }

-- the outcome with this status, without numbers
abbrev pub ended : Status → Outcome
ended status = record { status = status; numbers = [] }

-- the outcome of a result: the one that it has, or one with its status
abbrev pub outcome_of : Result Outcome Status → Outcome
outcome_of (Ok outcome) = outcome
outcome_of (Err status) = ended status

-- the numbers, and zeros up to the most that a line has
abbrev pub filled : List ℕ → List ℕ
filled numbers = numbers ++ replicate (7 - length numbers) 0
