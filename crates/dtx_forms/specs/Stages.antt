-- In which stages a job reads its inputs and writes its outputs. It is said by what the files hold where an input is
-- foreseen not to be readable to its end.
use Rattle.std.specs.Prelude.{◌≡◌, ◌≢◌, ℕ, ◌*◌, ◌^◌, ◌<◌, List, [], ◌∷◌, Option, Some, None, Result, Ok, Err}
use Rattle.std.specs.Prelude.{IfSome}
use Rattle.std.specs.FinMap.{get}
use Rattle.std.specs.List.{Contains}
use Rattle.dtx_outside.specs.Counts.{Counts, Rose}
use Rattle.dtx_outside.specs.Foreseen.{Foreseen}
use Rattle.dtx_outside.specs.Shelf.{Files}
use Rattle.dtx_meaning.specs.declared.status.Status.{Status}
use Rattle.dtx_meaning.specs.declared.status.Status.TheVariants.{ReadFault}
use Rattle.dtx_plan.specs.declared.refusal.PlanNo.{PlanNo}
use Rattle.dtx_engine.specs.Made.{Made, only}
use Rattle.dtx_engine.specs.Recipe.{Recipe}
use Rattle.dtx_engine.specs.Stages.{IsStopped}
use Rattle.dtx_engine.specs.declared.engine.Shape.{Shape}

-- how a job reads its inputs, and what it has made on the way
pub record Stages : Type 0 where
  -- the inputs that are read whole before an output is begun
  pub before : List (List ℕ)
  -- the input that is read in pieces, and how many bytes a piece has at most
  pub input : List ℕ
  pub piece : ℕ
  -- the outputs, and what is made for them of some bytes, the first of that input
  pub outputs : List (List ℕ)
  pub made : Files → List ℕ → Made

-- Of the input that is read in pieces the first n bytes can be read, and no byte behind them. Each other input can be
-- read whole.
pub record IsOpenUntil (foreseen : Foreseen) (stages : Stages) (n : ℕ) : Type 0 where
  pub input : foreseen.readable stages.input ≡ Some n
  pub before : (name : List ℕ) → Contains stages.before name → foreseen.readable name ≡ Some (2 ^ 64)

-- what a job with these stages leaves of the files, which were `held` and are `now`
pub record HasStages (foreseen : Foreseen) (stages : Stages) (held : Files) (status : Status) (now : Option Files)
    (before after : Counts) : Type 0 where
  -- Each input is read before an output is begun: where no byte of one can be read, each file is as before.
  pub untouched : (name : List ℕ) → Contains (stages.input ∷ stages.before) name → foreseen.readable name ≡ Some 0
      → now ≡ Some held
  -- Outputs are written on the way. Where reading failed behind the first n bytes, and no write error was counted, they
  -- nearly hold what is made of all of these but for less than a piece (`IsStopped`).
  pub stopped : (n : ℕ) (file : List ℕ) → 0 < n → IsOpenUntil foreseen stages n → get held stages.input ≡ Some file
      → ¬ Rose before.write_faults after.write_faults → status ≡ ReadFault
      → IsStopped stages.outputs (stages.made held) file stages.piece n (Some held) now

-- The same where the words fit and name an input (`Some`), and the files are told. Of others nothing is said.
abbrev pub IsStaged : Foreseen → Option Stages → Status → Option Files → Option Files → Counts → Counts → Type 0
IsStaged foreseen None status told now before after = Unit {0}
IsStaged foreseen (Some stages) status told now before after =
    IfSome told (λ held. HasStages foreseen stages held status now before after)

-- ---- the stages of jobs

-- The input alone is read, in units of a shape, and a recipe says what is made of them.
abbrev pub stages_of : Shape → Recipe → List ℕ → List (List ℕ) → Stages
stages_of shape recipe input outputs = record {
  before = [];
  input = input;
  piece = shape.unit * shape.units;
  outputs = outputs;
  made = λ held bytes. recipe.made bytes;
}

-- what is made of some bytes by the recipe that follows from what a file says: nothing, where it breaks a rule
abbrev pub made_said : {T : Type 0} → (T → Recipe) → Result T PlanNo → List ℕ → Made
made_said recipe (Ok said) bytes = (recipe said).made bytes
made_said recipe (Err refusal) bytes = only []

-- the same of a file that may be absent
abbrev pub made_under : {T : Type 0} → (List ℕ → Result T PlanNo) → Option (List ℕ) → (T → Recipe) → List ℕ → Made
made_under said None recipe bytes = only []
made_under said (Some file) recipe bytes = made_said recipe (said file) bytes

-- Another file, of the name `first`, is read before the input. What it says gives the recipe.
abbrev pub stages_under : {T : Type 0} → (List ℕ → Result T PlanNo) → List ℕ → Shape → (T → Recipe) → List ℕ
    → List (List ℕ) → Stages
stages_under said first shape recipe input outputs = record {
  before = first ∷ [];
  input = input;
  piece = shape.unit * shape.units;
  outputs = outputs;
  made = λ held bytes. made_under said (get held first) recipe bytes;
}

-- ---- a file that is read whole

-- What reading a file whole can answer, where its readable bytes are foreseen. It gives bytes only where some can be
-- read. Where all can be, reading doesn't fail.
abbrev pub IsForeseenWhole : {T : Type 0} → Option ℕ → Result T Status → Type 0
IsForeseenWhole readable (Ok x) = readable ≢ Some 0
IsForeseenWhole readable (Err status) = readable ≡ Some (2 ^ 64) → status ≢ ReadFault
