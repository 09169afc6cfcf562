-- Laws of damage that is laid over a file piece by piece.
use Rattle.std.proofs.Common.{◌≡◌, ℕ, List, [], ◌++◌, length, refl, sym, ap, zero-add, arith}
use Rattle.dtx_engine.specs.Made.{AreFrontsOf, only}
use Rattle.dtx_make.proofs.LaidLemmas.{damaged_bytes-append}
use Rattle.dtx_make.specs.Hurt.{hurt, damaged_bytes}
use Rattle.dtx_plan.specs.declared.damage.Damage.{Damage}
use Rattle.dtx_recipes.specs.Hurt.{hurting}

pub hurt_none : (damage : List Damage) → hurt damage [] ≡ []
unfolding damaged_bytes
hurt_none damage = refl

-- damage over a file of two pieces
pub hurt-append : (damage : List Damage) (first rest : List ℕ)
    → hurt damage (first ++ rest) ≡ hurt damage first ++ damaged_bytes damage (length first) rest
hurt-append damage first rest = grind (arith, damaged_bytes-append, zero-add)

-- no bytes give no bytes
pub hurting_starts : (damage : List Damage) → (hurting damage).made [] ≡ only []
hurting_starts damage = ap only (hurt_none damage)

-- more bytes add to the output, and change nothing of what was made before
pub hurting_grows : (damage : List Damage) (a b : List ℕ)
    → AreFrontsOf ((hurting damage).made a) ((hurting damage).made (a ++ b))
hurting_grows damage a b = ((damaged_bytes damage (length a) b, sym (hurt-append damage a b)), ([], refl))
