-- Lemmas of what may be answered of an input: faults, refusals to read it, and how a making ends.
use Rattle.std.specs.Prelude.{◌≡◌, ℕ, List}
use Rattle.std.proofs.Common.{arith}
use Rattle.dtx_outside.specs.declared.shelf.ReadNo.{ReadNo}
use Rattle.dtx_outside.specs.declared.shelf.ReadNo.TheVariants as read
use Rattle.dtx_meaning.specs.Status.{IsFault, ended, of_read, refused_behind}
use Rattle.dtx_meaning.specs.declared.status.Outcome.{Outcome}
use Rattle.dtx_meaning.specs.declared.status.Status.{Status}
use Rattle.dtx_meaning.specs.declared.status.Status.TheVariants.{Absent, ReadFault, WriteFault, Memory}
use Rattle.dtx_engine.specs.Recipe.{IsAnswerOf, Recipe}

-- a fault
pub fault_answers : (recipe : Recipe) (status : Status) → IsFault status → IsAnswerOf recipe (ended status)
fault_answers recipe ReadFault fault = tt
fault_answers recipe WriteFault fault = tt
fault_answers recipe Memory fault = tt
fault_answers recipe status fault = absurd fault

-- a fault that came behind another status
pub behind_answers : (recipe : Recipe) (first refusal : Status) → IsFault refusal
    → IsAnswerOf recipe (ended (refused_behind first refusal))
behind_answers recipe (Absent input) Memory fault = tt
behind_answers recipe ReadFault Memory fault = tt
behind_answers recipe WriteFault Memory fault = tt
behind_answers recipe first refusal fault = fault_answers recipe refusal fault

-- a refusal to read
pub read_answers : (recipe : Recipe) (number : ℕ) (cause : ReadNo) → IsAnswerOf recipe (ended (of_read number cause))
read_answers recipe number read.Absent = tt
read_answers recipe number read.Failed = tt
read_answers recipe number read.Memory = tt

-- the end of some input
pub end_answers : (recipe : Recipe) (given : List ℕ) (loose : ℕ) (outcome : Outcome)
    → outcome ≡ recipe.answer given loose → IsAnswerOf recipe outcome
end_answers recipe given loose outcome is = grind arith
