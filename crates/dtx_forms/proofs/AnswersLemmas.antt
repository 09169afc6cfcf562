-- Which refusals a command knows: of how its making answers, of equal names, and of a plan that is not read.
use Rattle.std.specs.Prelude.{◌≡◌, ◌⊎◌, ℕ, false, true, List}
use Rattle.std.proofs.Common.{inl, inr, refl, arith}
use Rattle.dtx_engine.specs.Recipe.{IsAnswerAt, IsAnswerOf, IsEndOf, Recipe}
use Rattle.dtx_meaning.specs.Status.{ended}
use Rattle.dtx_meaning.specs.declared.status.Outcome.{Outcome}
use Rattle.dtx_meaning.specs.declared.status.Status.{Status}
use Rattle.dtx_meaning.specs.declared.status.Status.TheVariants.{Done, Usage, Same, Absent, Plan, Packet, TooLong}
use Rattle.dtx_meaning.specs.declared.status.Status.TheVariants.{OutOfFeed, OutOfAir, NoSync, ReadFault, WriteFault}
use Rattle.dtx_meaning.specs.declared.status.Status.TheVariants.{Memory}
use Rattle.dtx_words.specs.declared.rows.Command.{Command}
use Rattle.dtx_forms.specs.Answers.{IsKnown, IsKnownAt, Knows}
use Rattle.dtx_forms.specs.PlanFile.{IsPlanRefusal}

-- A command that may be answered that its input is too long, that a unit is refused where one can be, and what its
-- making answers at the end, knows all answers of that making.
pub knows_by : (recipe : Recipe) (command : Command) → Knows command TooLong
    → ((k : ℕ) → (unit : List ℕ) × (recipe.allows k unit ≡ false) → Knows command (Packet k))
    → ((given : List ℕ) (loose : ℕ) → IsKnown command (recipe.answer given loose))
    → (outcome : Outcome) → IsAnswerOf recipe outcome → IsKnown command outcome
knows_by recipe command long refused ends outcome is = by_status outcome.status refl is
  where
    at_end : (s : Status) → outcome.status ≡ s → IsEndOf recipe outcome → IsKnownAt command s outcome.numbers
    at_end s same (given, loose, end) = grind arith

    by_status : (s : Status) → outcome.status ≡ s → IsAnswerAt recipe s outcome → IsKnownAt command s outcome.numbers
    by_status Done same is = at_end Done same is
    by_status (Plan refusal) same is = at_end (Plan refusal) same is
    by_status (Packet k) same is = elim is [
      | inl unit ↦ refused k unit
      | inr end ↦ at_end (Packet k) same end
    ]
    by_status TooLong same is = long
    by_status (OutOfFeed event) same is = at_end (OutOfFeed event) same is
    by_status (OutOfAir entry) same is = at_end (OutOfAir entry) same is
    by_status NoSync same is = at_end NoSync same is
    by_status s same is = tt

-- no unit is refused
pub none_refused : {Known : Type 0} → (unit : List ℕ) × (true ≡ false) → Known
none_refused (unit, refused) = let e : true ≡ false = refused in cc

-- a command of one input and one output, whose names may be equal
pub transformed_knows : (recipe : Recipe) (command : Command) (outcome : Outcome)
    → ((o : Outcome) → IsAnswerOf recipe o → IsKnown command o) → (outcome.status ≡ Same) ⊎ IsAnswerOf recipe outcome
    → IsKnown command outcome
transformed_knows recipe command outcome knows is = grind arith

-- a plan, or changes, that are not read
pub plan_refusal_known : (command : Command) (number : ℕ) → ((refusal : _) → Knows command (Plan refusal))
    → (status : Status) → IsPlanRefusal number status → IsKnown command (ended status)
plan_refusal_known command number known (Plan refusal) is = known refusal
plan_refusal_known command number known (Absent input) is = tt
plan_refusal_known command number known ReadFault is = tt
plan_refusal_known command number known Memory is = tt
plan_refusal_known command number known Done is = elim is [ ]
plan_refusal_known command number known Usage is = elim is [ ]
plan_refusal_known command number known Same is = elim is [ ]
plan_refusal_known command number known (Packet k) is = elim is [ ]
plan_refusal_known command number known TooLong is = elim is [ ]
plan_refusal_known command number known (OutOfFeed event) is = elim is [ ]
plan_refusal_known command number known (OutOfAir entry) is = elim is [ ]
plan_refusal_known command number known NoSync is = elim is [ ]
plan_refusal_known command number known WriteFault is = elim is [ ]
