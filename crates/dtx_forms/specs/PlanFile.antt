-- Plans and files of changes, which are read whole: what a command means that reads one, and how reading one ends.
use Rattle.std.specs.Prelude.{◌≡◌, ℕ, ◌≤◌, Bool, true, List, length, take, Option, Some, None, Result, Ok, Err}
use Rattle.std.specs.Prelude.{IsSomeAnd}
use Rattle.std.specs.Prelude.{Vec}
use Rattle.std.specs.declared.alloc.Global.{Global}
use Rattle.dtx_meaning.specs.Meaning.{Meaning, refused}
use Rattle.dtx_meaning.specs.declared.status.Status.{Status}
use Rattle.dtx_meaning.specs.declared.status.Status.TheVariants.{Absent, Plan, ReadFault, Memory}
use Rattle.dtx_plan.specs.Plan.{plan_of, changes_of}
use Rattle.dtx_plan.specs.declared.damage.Damage.{Damage}
use Rattle.dtx_plan.specs.declared.plan.Plan as plan
use Rattle.dtx_plan.specs.declared.refusal.PlanNo.{PlanNo}

-- ---- what a command means

-- the meaning that follows from what a file says, or the refusal of the first rule that it breaks
abbrev pub under_said : {T : Type 0} → (T → Meaning) → Result T PlanNo → Meaning
under_said means (Ok said) = means said
under_said means (Err refusal) = refused (Plan refusal)

-- the same for the input of that number, which may be absent
abbrev pub under_file : {T : Type 0} → (List ℕ → Result T PlanNo) → ℕ → Option (List ℕ) → (T → Meaning) → Meaning
under_file said number None means = refused (Absent number)
under_file said number (Some file) means = under_said means (said file)

-- the meaning that follows from the plan in the input of that number
abbrev pub under_plan : ℕ → Option (List ℕ) → (plan.Plan → Meaning) → Meaning
under_plan = under_file plan_of

-- the meaning that follows from the damage in the input of that number, a file of changes
abbrev pub under_changes : ℕ → Option (List ℕ) → (List Damage → Meaning) → Meaning
under_changes = under_file changes_of

-- ---- reading the bytes

-- the bytes that are read of a plan or a file of changes: all, or one more than such a file may have
unfoldable pub small_part : List ℕ → List ℕ
small_part file = take 16777217 file

-- why the input of that number, which may be absent, was not read
abbrev pub IsUnread : Option (List ℕ) → ℕ → Status → Type 0
IsUnread found number (Absent input) = (input ≡ number) × (found ≡ None)
IsUnread found number ReadFault = Unit {0}
IsUnread found number Memory = Unit {0}
IsUnread found number _ = ⊥

-- the status is a refusal to read the input of that number
abbrev pub IsReadRefusal : ℕ → Status → Type 0
IsReadRefusal number (Absent input) = input ≡ number
IsReadRefusal number ReadFault = Unit {0}
IsReadRefusal number Memory = Unit {0}
IsReadRefusal number _ = ⊥

-- how reading the input of that number ends
abbrev pub IsSmallFile : Option (List ℕ) → ℕ → Result (Vec ℕ Global) Status → Type 0
IsSmallFile found number (Ok bytes) = IsSomeAnd found (λ file. bytes.items ≡ small_part file)
IsSmallFile found number (Err status) = IsUnread found number status

-- these are the first bytes of the file
abbrev pub AreFirstOf : List ℕ → List ℕ → Type 0
AreFirstOf file bytes = bytes ≡ take (length bytes) file

-- how reading one piece more ends: the bytes are still the first ones of the file, and all of it where the file ended
abbrev pub IsReadOn : Option (List ℕ) → ℕ → List ℕ → Result Bool Status → List ℕ → Type 0
IsReadOn found number old (Ok ended) new =
    IsSomeAnd found (λ file. AreFirstOf file old → AreFirstOf file new × (ended ≡ true → length file ≤ length new))
IsReadOn found number old (Err status) new = IsUnread found number status

-- how reading ends when the file does, or after more bytes than a plan or a file of changes may have
abbrev pub IsReadAll : Option (List ℕ) → ℕ → Result (Unit {0}) Status → List ℕ → Type 0
IsReadAll found number (Ok _) bytes = IsSomeAnd found (λ file. small_part bytes ≡ small_part file)
IsReadAll found number (Err status) bytes = IsUnread found number status

-- ---- reading what they say

-- how reading the input of that number, which may be absent, ends where `said` reads its bytes
abbrev pub IsReadAs : {T : Type 0} → (List ℕ → Result T PlanNo) → Option (List ℕ) → ℕ → Result T Status → Type 0
IsReadAs said found number (Ok x) = IsSomeAnd found (λ file. said file ≡ Ok x)
IsReadAs said found number (Err (Plan refusal)) = IsSomeAnd found (λ file. said file ≡ Err refusal)
IsReadAs said found number (Err (Absent input)) = (input ≡ number) × (found ≡ None)
IsReadAs said found number (Err ReadFault) = Unit {0}
IsReadAs said found number (Err Memory) = Unit {0}
IsReadAs said found number (Err _) = ⊥

-- how reading the plan in the input of that number ends
abbrev pub IsPlanRead : Option (List ℕ) → ℕ → Result plan.Plan Status → Type 0
IsPlanRead = IsReadAs plan_of

-- how reading the damage in the input of that number ends, a file of changes
abbrev pub IsChangesRead : Option (List ℕ) → ℕ → Result (List Damage) Status → Type 0
IsChangesRead = IsReadAs changes_of

-- the status is a refusal to read the plan, or the changes, in the input of that number
abbrev pub IsPlanRefusal : ℕ → Status → Type 0
IsPlanRefusal number (Absent input) = input ≡ number
IsPlanRefusal number (Plan refusal) = Unit {0}
IsPlanRefusal number ReadFault = Unit {0}
IsPlanRefusal number Memory = Unit {0}
IsPlanRefusal number _ = ⊥
