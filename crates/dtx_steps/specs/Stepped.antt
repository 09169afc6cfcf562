-- What a step does.
use Rattle.std.specs.Prelude.{◌≡◌, ℕ, List, ◌++◌}
use Rattle.dtx_engine.specs.Made.{Made, joined}
use Rattle.dtx_engine.specs.Recipe.{Recipe}

-- The bytes were given too, behind those before. Of all that is made so far, what is held stands behind `front`.
pub record IsStepped (recipe : Recipe) (given bytes : List ℕ) (stands : List ℕ → Type 0) (front holds : Made)
    : Type 0 where
  pub stand : stands (given ++ bytes)
  pub made : recipe.made (given ++ bytes) ≡ joined front holds
