-- A file that is read up to the most bytes that a small one may have, and what it says.
use Rattle.std.proofs.Common.{◌≡◌, ◌⊎◌, ℕ, ◌≤◌, List, length, take, sym, ap, ◌∙◌, arith, inl, inr}
use Rattle.std.specs.Prelude.{Option, Some, None, Result, Ok, Err, IfSome, IsSomeAnd, Bool, true, nat_lt, if◌then◌else◌}
use Rattle.std.specs.FinMap.{get}
use Rattle.std.proofs.lemmas.Bool.{cases_lt, lt-ltb}
use Rattle.std.proofs.lemmas.List.{take_all, take-take, length-take-le}
use Rattle.dtx_outside.specs.Shelf.{Files}
use Rattle.dtx_plan.specs.Plan.{plan_of, changes_of, root_of, text_of, table_in}
use Rattle.dtx_plan.specs.Rows.{◌>>=◌, refused, IsAnswer}
use Rattle.dtx_plan.specs.Plan as root
use Rattle.dtx_plan.specs.declared.key.PlanKey.TheVariants as key
use Rattle.dtx_plan.specs.declared.rule.PlanRule.TheVariants.{Size}
use Rattle.dtx_plan.specs.declared.refusal.PlanFault.{PlanFault}
use Rattle.dtx_plan.specs.declared.refusal.PlanFault.TheVariants as fault
use Rattle.dtx_plan.specs.declared.refusal.PlanNo.{PlanNo}
use Rattle.dtx_meaning.specs.Status.{of_plan}
use Rattle.dtx_meaning.specs.declared.status.Status.{Status}
use Rattle.dtx_forms.specs.PlanFile.{small_part, AreFirstOf, IsReadAll, IsReadOn, IsReadAs}

-- ---- a file that is too long reads as its first bytes

too_long : (file : List ℕ) (b : Bool) → nat_lt 16777216 (length file) ≡ b → b ≡ true
    → root_of file ≡ refused key.Whole 0 Size
too_long file b is long = ap (λ (b : Bool). if b then refused key.Whole 0 Size else text_of (table_in file)) (is ∙ long)

long_part : (file : List ℕ) → 16777217 ≤ length file → length (small_part file) ≡ 16777217
unfolding small_part
long_part file within = length-take-le 16777217 file within

short_part : (file : List ℕ) → length file ≤ 16777217 → small_part file ≡ file
unfolding small_part
short_part file within = take_all 16777217 file within

root_of_part : (file : List ℕ) → root_of (small_part file) ≡ root_of file
root_of_part file = grind (arith, cases_lt, long_part, too_long, lt-ltb, short_part)

-- it gives the plan of all of it
pub plan_of_part : (file : List ℕ) → plan_of (small_part file) ≡ plan_of file
plan_of_part file = ap (λ r. r >>= root.plan) (root_of_part file)

-- and the damage
pub changes_of_part : (file : List ℕ) → changes_of (small_part file) ≡ changes_of file
changes_of_part file = ap (λ r. r >>= root.changes) (root_of_part file)

-- ---- the bytes that were read

all_at : (file bytes : List ℕ) → AreFirstOf file bytes → (length file ≤ length bytes) ⊎ (16777217 ≤ length bytes)
    → small_part bytes ≡ small_part file
unfolding small_part
all_at file bytes front (inl whole) = ap (take 16777217) (front ∙ take_all (length bytes) file whole)
all_at file bytes front (inr long) = ap (take 16777217) front ∙ take-take 16777217 (length bytes) file long

-- the file ended, or enough of it was read
pub all_read : (told : Option Files) (name : List ℕ) (number : ℕ) (old new : List ℕ) (ended : Bool)
    → IfSome told (λ held. (file : List ℕ) → get held name ≡ Some file → AreFirstOf file old)
    → IfSome told (λ held. IsReadOn (get held name) number old (Ok ended) new)
    → (ended ≡ true) ⊎ (16777217 ≤ length new) → IfSome told (λ held. IsReadAll (get held name) number (Ok tt) new)
all_read None name number old new ended front on enough = tt
all_read (Some held) name number old new ended front on enough = grind (arith, all_at)

cut_at : (found : Option (List ℕ)) (number : ℕ) (bytes items : List ℕ) → items ≡ take 16777217 bytes
    → IsReadAll found number (Ok tt) bytes → IsSomeAnd found (λ file. items ≡ small_part file)
unfolding small_part
cut_at None number bytes items cut is = is
cut_at (Some file) number bytes items cut is = cut ∙ is

-- the bytes that were read, cut where they are more than such a file may have
pub small_told : (told : Option Files) (name : List ℕ) (number : ℕ) (bytes items : List ℕ)
    → items ≡ take 16777217 bytes → IfSome told (λ held. IsReadAll (get held name) number (Ok tt) bytes)
    → IfSome told (λ held. IsSomeAnd (get held name) (λ file. items ≡ small_part file))
small_told None name number bytes items cut is = tt
small_told (Some held) name number bytes items cut is = cut_at (get held name) number bytes items cut is

-- ---- what they say

said_at : {T : Type 0} (said : List ℕ → Result T PlanNo) (found : Option (List ℕ)) (number : ℕ) (items : List ℕ)
    (x : T) → ((file : List ℕ) → said (small_part file) ≡ said file)
    → IsSomeAnd found (λ file. items ≡ small_part file) → IsAnswer (said items) (Ok x)
    → IsReadAs said found number (Ok x)
said_at said None number items x part is walk = is
said_at said (Some file) number items x part is walk = sym (part file) ∙ sym (ap said is) ∙ walk

-- what the file says
pub read_said : {T : Type 0} (said : List ℕ → Result T PlanNo) (told : Option Files) (name : List ℕ) (number : ℕ)
    (items : List ℕ) (x : T) → ((file : List ℕ) → said (small_part file) ≡ said file)
    → IfSome told (λ held. IsSomeAnd (get held name) (λ file. items ≡ small_part file)) → IsAnswer (said items) (Ok x)
    → IfSome told (λ held. IsReadAs said (get held name) number (Ok x))
read_said said None name number items x part is walk = tt
read_said said (Some held) name number items x part is walk = said_at said (get held name) number items x part is walk

unsaid_at : {T : Type 0} (said : List ℕ → Result T PlanNo) (found : Option (List ℕ)) (number : ℕ) (items : List ℕ)
    (fault : PlanFault) → ((file : List ℕ) → said (small_part file) ≡ said file)
    → IsSomeAnd found (λ file. items ≡ small_part file) → IsAnswer (said items) (Err fault)
    → IsReadAs said found number (Err (of_plan fault))
unsaid_at said found number items fault.Memory part is walk = tt
unsaid_at said None number items (fault.No refusal) part is walk = is
unsaid_at said (Some file) number items (fault.No refusal) part is walk = sym (part file) ∙ sym (ap said is) ∙ walk

-- the first rule that it breaks
pub read_refused : {T : Type 0} (said : List ℕ → Result T PlanNo) (told : Option Files) (name : List ℕ) (number : ℕ)
    (items : List ℕ) (fault : PlanFault) (status : Status) → ((file : List ℕ) → said (small_part file) ≡ said file)
    → status ≡ of_plan fault → IfSome told (λ held. IsSomeAnd (get held name) (λ file. items ≡ small_part file))
    → IsAnswer (said items) (Err fault) → IfSome told (λ held. IsReadAs said (get held name) number (Err status))
read_refused said None name number items fault status part same is walk = tt
read_refused said (Some held) name number items fault status part same is walk = grind (arith, unsaid_at)
