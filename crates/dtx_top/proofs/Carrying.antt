-- What is carried out, told of other terms for its names, and of the answer that is made of it.
use Rattle.std.proofs.Common.{◌≡◌, ℕ, true, false, List, [], ◌∷◌, length, refl, arith}
use Rattle.std.specs.Prelude.{Option, Some, None, IfSome}
use Rattle.std.specs.FinMap.{get}
use Rattle.dtx_engine.specs.Recipe.{Recipe, meaning}
use Rattle.dtx_engine.specs.declared.engine.Shape.{Shape}
use Rattle.dtx_forms.specs.Damaged.{damaged_making}
use Rattle.dtx_recipes.specs.Hurt.{first_past}
use Rattle.dtx_recipes.specs.Receive.{receiving}
use Rattle.dtx_forms.specs.Shapes.{segments}
use Rattle.dtx_meaning.proofs.MeaningLemmas.{carried_refused}
use Rattle.dtx_meaning.specs.Meaning.{IsCarriedOut}
use Rattle.dtx_meaning.specs.Status.{IsFault, ended}
use Rattle.dtx_meaning.specs.declared.status.Outcome.{Outcome}
use Rattle.dtx_meaning.specs.declared.status.Status.{Status}
use Rattle.dtx_meaning.specs.declared.status.Status.TheVariants.{Done, ReadFault, WriteFault, Memory, OutOfAir}
use Rattle.dtx_outside.specs.Shelf.{Files}
use Rattle.dtx_plan.specs.declared.damage.Damage.{Damage}
use Rattle.dtx_words.specs.Names.{received_name}
use Rattle.dtx_top.specs.NetMeaning.{is_done, received_past}

-- the engine's making, the output's name and the input's are these
pub carried_by : (told now : Option Files) (outcome : Outcome) (shape : Shape) (made said : Recipe) (number : ℕ)
    (out output name input : List ℕ) → made ≡ said → out ≡ output → name ≡ input
    → IfSome told (λ held. IsCarriedOut (meaning shape made number (out ∷ []) (get held name)) (Some held) outcome now)
    → IfSome told (λ held. IsCarriedOut (meaning shape said number (output ∷ []) (get held input))
    (Some held) outcome now)
carried_by told now outcome shape made said number out output name input same its named carried = grind arith

-- ---- the damage is compared with the symbols

pub past_air : (damage : List Damage) (file : List ℕ) (symbols entry : ℕ) (held : Files) (now : Option Files)
    (outcome : Outcome)
    → first_past damage symbols ≡ Some entry → first_past damage symbols ≡ first_past damage (length file)
    → now ≡ Some held → outcome ≡ ended (OutOfAir entry)
    → IsCarriedOut (received_past (first_past damage (length file)) damage file) (Some held) outcome now
past_air damage file symbols entry held now outcome some serves same is = grind (arith, carried_refused)

pub within_air : (damage : List Damage) (file name : List ℕ) (symbols : ℕ) (held : Files) (told now : Option Files)
    (outcome : Outcome)
    → first_past damage symbols ≡ None → first_past damage symbols ≡ first_past damage (length file) → told ≡ Some held
    → get held name ≡ Some file
    → IfSome told (λ held. IsCarriedOut (meaning segments (damaged_making damage receiving) 3 (received_name ∷ [])
    (get held name)) (Some held) outcome now)
    → IsCarriedOut (received_past (first_past damage (length file)) damage file) (Some held) outcome now
within_air damage file name symbols held told now outcome none serves is there carried = grind arith

-- ---- the answer of what was received

pub is_done_is : (status : Status) → is_done status ≡ true → status ≡ Done
is_done_is Done e = refl
is_done_is status e = cc

pub fault_not_done : (status : Status) → IsFault status → is_done status ≡ false
fault_not_done ReadFault fault = refl
fault_not_done WriteFault fault = refl
fault_not_done Memory fault = refl
fault_not_done status fault = absurd fault
