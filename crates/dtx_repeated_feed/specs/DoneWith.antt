-- A meaning whose answer is `Done`, and what it writes.
use Rattle.std.specs.Prelude.{◌≡◌, ℕ, List}
use Rattle.dtx_engine.specs.Made.{Made, outputs_of}
use Rattle.dtx_meaning.specs.Meaning.{Meaning}
use Rattle.dtx_meaning.specs.declared.status.Status.TheVariants.{Done}

-- The answer is `Done`, and the outputs of these names hold exactly `made`.
pub record IsDoneWith (names : List (List ℕ)) (made : Made) (meaning : Meaning) : Type 0 where
  pub done : meaning.outcome.status ≡ Done
  pub outputs : meaning.outputs ≡ outputs_of names made
