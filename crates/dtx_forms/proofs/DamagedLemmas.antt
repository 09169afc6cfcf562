-- Lemmas of what is made of damaged bytes.
use Rattle.std.proofs.Common.{ℕ, List, length, arith}
use Rattle.dtx_engine.specs.Made.{Made}
use Rattle.dtx_engine.specs.Recipe.{Recipe, IsFed}
use Rattle.dtx_make.specs.Hurt.{hurt, damaged_bytes}
use Rattle.dtx_make.proofs.LaidLemmas.{hurt-append}
use Rattle.dtx_plan.specs.declared.damage.Damage.{Damage}
use Rattle.dtx_forms.specs.Damaged.{damaged_making}

-- damaged bytes were given behind others
pub hurt_fed : (damage : List Damage) (recipe : Recipe) (given bytes : List ℕ) (stands : List ℕ → Type 0) (gives : Made)
    → IsFed recipe (hurt damage given) (damaged_bytes damage (length given) bytes) stands gives
    → IsFed (damaged_making damage recipe) given bytes (λ z. stands (hurt damage z)) gives
hurt_fed damage recipe given bytes stands gives fed = grind (arith, hurt-append)
