-- Lemmas of answers that the words alone tell.
use Rattle.std.specs.Prelude.{ℕ, Bool, true, false, ◌||◌, cond, is_some, List, Some, None, refl}
use Rattle.dtx_meaning.specs.Status.{IsOfInput, IsOfInputs, of_write}
use Rattle.dtx_meaning.specs.declared.status.Status.{Status}
use Rattle.dtx_meaning.specs.declared.status.Status.TheVariants.{Done, Usage, Same, Absent, Plan, Packet, TooLong}
use Rattle.dtx_meaning.specs.declared.status.Status.TheVariants.{OutOfFeed, OutOfAir, NoSync, ReadFault, WriteFault}
use Rattle.dtx_meaning.specs.declared.status.Status.TheVariants.{Memory}
use Rattle.dtx_outside.specs.declared.shelf.WriteNo.{WriteNo}
use Rattle.dtx_outside.specs.declared.shelf.WriteNo.TheVariants as write
use Rattle.dtx_forms.specs.PlanFile.{IsPlanRefusal}

-- whether the second of two names equals the first
pub pair_told : (second : List ℕ) (same : Bool) (inputs : ℕ) (status : Status) → IsOfInputs same inputs status
    → IsOfInputs (is_some (cond (same || false) (Some second) None)) inputs status
pair_told second true inputs status is = is
pair_told second false inputs status is = is

-- a fault of writing
pub write_of_inputs : (cause : WriteNo) → IsOfInputs false 0 (of_write cause)
write_of_inputs write.Failed = refl
write_of_inputs write.Memory = tt

-- a refusal to read a plan, or changes
pub refusal_of_input : (number : ℕ) (status : Status) → IsPlanRefusal number status → IsOfInput number status
refusal_of_input number Done is = elim is [ ]
refusal_of_input number Usage is = elim is [ ]
refusal_of_input number Same is = elim is [ ]
refusal_of_input number (Absent input) is = is
refusal_of_input number (Plan refusal) is = tt
refusal_of_input number (Packet k) is = elim is [ ]
refusal_of_input number TooLong is = elim is [ ]
refusal_of_input number (OutOfFeed event) is = elim is [ ]
refusal_of_input number (OutOfAir entry) is = elim is [ ]
refusal_of_input number NoSync is = elim is [ ]
refusal_of_input number ReadFault is = tt
refusal_of_input number WriteFault is = elim is [ ]
refusal_of_input number Memory is = tt
