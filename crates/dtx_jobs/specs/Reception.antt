-- What the engine of `receive` and `mend` keeps.
use Rattle.std.specs.Prelude.{◌≡◌, ℕ, ℤ, List}
use Rattle.dtx_recipes.specs.Giving.{Giving}
use Rattle.dtx_recipes.specs.SymbolFile.{file_segments}
use Rattle.dtx_recipes.specs.Tally.{tally_of, IsBounded}
use Rattle.dtx_recipes.specs.declared.tally.Tally.{Tally}

-- the state after these segments: the receiver stands for them, and the numbers are those of the segments and of the
-- packets that they gave
pub record IsReceiving (giving : Giving) (stands : List (List ℤ) → Type 0) (numbers : Tally)
    (segments : List (List ℤ)) : Type 0 where
  pub receiver : stands segments
  pub tally : numbers ≡ tally_of segments (giving.so_far segments)

-- the state after the segments of these bytes; the numbers are within the bounds for as many segments
pub record WasGiven (giving : Giving) (stands : List (List ℤ) → Type 0) (tally : Tally) (bytes : List ℕ) : Type 0 where
  pub receiving : IsReceiving giving stands tally (file_segments bytes)
  pub bounded : IsBounded tally tally.segments
