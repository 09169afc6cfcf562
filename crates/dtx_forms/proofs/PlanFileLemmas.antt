-- What a command means that reads a plan or a file of changes first, once that was read or was not.
use Rattle.std.specs.Prelude.{◌≡◌, ℕ, List, Option, Some, None, Result, Ok, Err, IfSome}
use Rattle.std.specs.FinMap.{get}
use Rattle.std.proofs.Common.{sym, ap, subst, ◌∙◌, arith}
use Rattle.dtx_meaning.proofs.MeaningLemmas.{carried_as, carried_fault, carried_refused}
use Rattle.dtx_meaning.specs.Meaning.{Meaning, IsCarriedOut, refused}
use Rattle.dtx_meaning.specs.Status.{IsFault, ended}
use Rattle.dtx_meaning.specs.declared.status.Outcome.{Outcome}
use Rattle.dtx_meaning.specs.declared.status.Status.{Status}
use Rattle.dtx_meaning.specs.declared.status.Status.TheVariants.{Absent, Plan, ReadFault, WriteFault, Memory}
use Rattle.dtx_outside.specs.Shelf.{Files}
use Rattle.dtx_plan.specs.declared.refusal.PlanNo.{PlanNo}
use Rattle.dtx_forms.specs.PlanFile.{under_said, under_file, IsReadAs}

-- ---- it was read

-- what the file says decides what is meant
pub read_means : {T : Type 0} (said : List ℕ → Result T PlanNo) (number : ℕ) (found : Option (List ℕ)) (x : T)
    (means : T → Meaning) → IsReadAs said found number (Ok x) → under_file said number found means ≡ means x
read_means said number None x means is = absurd is
read_means said number (Some file) x means is = ap (under_said means) is

-- where the files are told, and stand as they stood
pub read_told : {T : Type 0} (said : List ℕ → Result T PlanNo) (number : ℕ) (name : List ℕ) (x : T)
    (means : Files → T → Meaning) (told mid now : Option Files) (outcome : Outcome) → mid ≡ told
    → IfSome told (λ held. IsReadAs said (get held name) number (Ok x))
    → IfSome mid (λ held. IsCarriedOut (means held x) (Some held) outcome now)
    → IfSome told (λ held. IsCarriedOut (under_file said number (get held name) (means held)) (Some held) outcome now)
read_told said number name x means None mid now outcome same is carried = tt
read_told said number name x means (Some held) mid now outcome same is carried = grind (arith, carried_as, read_means)

-- ---- it was not

broken_rule : {T : Type 0} (said : List ℕ → Result T PlanNo) (number : ℕ) (found : Option (List ℕ)) (refusal : PlanNo)
    (means : T → Meaning) → IsReadAs said found number (Err (Plan refusal))
    → under_file said number found means ≡ refused (Plan refusal)
broken_rule said number None refusal means is = absurd is
broken_rule said number (Some file) refusal means is = ap (under_said means) is

fault_at : (status : Status) (outcome : Outcome) → outcome ≡ ended status → IsFault status → IsFault outcome.status
fault_at status outcome is fault = subst (λ (o : Outcome). IsFault o.status) (sym is) fault

-- the refusal is what is meant, or a fault was met
pub unread_carried : {T : Type 0} (said : List ℕ → Result T PlanNo) (number : ℕ) (found : Option (List ℕ))
    (status : Status) (means : T → Meaning) (start now : Option Files) (outcome : Outcome)
    → IsReadAs said found number (Err status) → now ≡ start → outcome ≡ ended status
    → IsCarriedOut (under_file said number found means) start outcome now
unread_carried said number found (Plan refusal) means start now outcome is same ends =
    carried_as (under_file said number found means) (refused (Plan refusal)) start now outcome
    (broken_rule said number found refusal means is) (carried_refused (Plan refusal) start now outcome same ends)
unread_carried said number found (Absent input) means start now outcome is same ends =
    grind (arith, carried_as, carried_refused)
unread_carried said number found ReadFault means start now outcome is same ends =
    carried_fault (under_file said number found means) start now outcome same (fault_at ReadFault outcome ends tt)
    (λ writing. let e : ReadFault ≡ WriteFault = sym (ap (λ (o : Outcome). o.status) ends) ∙ writing in cc)
unread_carried said number found Memory means start now outcome is same ends =
    carried_fault (under_file said number found means) start now outcome same (fault_at Memory outcome ends tt)
    (λ writing. let e : Memory ≡ WriteFault = sym (ap (λ (o : Outcome). o.status) ends) ∙ writing in cc)
unread_carried said number found status means start now outcome is same ends = absurd is

-- where the files are told
pub unread_told : {T : Type 0} (said : List ℕ → Result T PlanNo) (number : ℕ) (name : List ℕ) (status : Status)
    (means : Files → T → Meaning) (told now : Option Files) (outcome : Outcome)
    → IfSome told (λ held. IsReadAs said (get held name) number (Err status)) → now ≡ told → outcome ≡ ended status
    → IfSome told (λ held. IsCarriedOut (under_file said number (get held name) (means held)) (Some held) outcome now)
unread_told said number name status means None now outcome is same ends = tt
unread_told said number name status means (Some held) now outcome is same ends =
    unread_carried said number (get held name) status (means held) (Some held) now outcome is same ends
