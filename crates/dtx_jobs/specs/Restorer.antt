-- What the engine of `acquire` and `refine` keeps, and its refiner.
use Rattle.std.specs.Prelude.{◌≡◌, ◌++◌, ℕ, ℤ, List, ◌≤◌, length}
use Rattle.dtx_files.specs.Symbols.{segment_bytes}
use Rattle.dtx_forms.specs.declared.shapes.TheConstants.{PIECE_BYTES}
use Rattle.dtx_recipes.specs.SymbolFile.{symbols}
use Rattle.dtx_recipes.specs.Restoring.{Restoring}
use Rattle.dtx_receiver.specs.Bytes.{bytes_in}
use Rattle.dtx_acquire.specs.Acquired.{acquired, acquired_runs}
use Rattle.dtx_rounds.specs.Known.{known_count}
use Rattle.dtx_rounds.specs.Rounds.{heard_of, refined_rest, round_cost, round_moved}
use Rattle.dtx_refine.specs.Refiner.{Refining, StandsFor}
use Rattle.dtx_recipes.specs.Refine.{before_last}

-- the engine stands for these bytes, one for each symbol: they are all that was given to it
pub record WasGiven (stands : List ℤ → Type 0) (room : ℕ) (bytes : List ℕ) : Type 0 where
  pub long : room ≡ PIECE_BYTES
  pub given : stands (symbols bytes)

-- A restorer, which stood for `old`, stands for `new` after these symbols, whatever it was given before. The segments
-- that they brought have the bytes `brought`.
pub record WereRestored (restoring : Restoring) (old new : List ℤ → Type 0) (given : List ℤ) (brought : List ℕ)
    : Type 0 where
  pub stands : (before : List ℤ) → old before → new (before ++ given)
  pub made : (before : List ℤ) → old before
      → segment_bytes (restoring.so_far (before ++ given)) ≡ segment_bytes (restoring.so_far before) ++ brought

-- it was given these symbols, and has at most 32 rounds
pub record IsRefining (refiner : Refining) (symbols : List ℤ) : Type 0 where
  pub stands : StandsFor refiner symbols
  pub count : refiner.symbols ≡ length symbols
  pub few : refiner.rounds ≤ 32

-- A refiner went from `old` to `new` by the end of these symbols. The bytes of the segments that the end brought are
-- `brought`, and the numbers are those of all symbols.
pub record WasFinished (old new : Refining) (symbols : List ℤ) (brought : List ℕ) : Type 0 where
  pub rest : brought ≡ segment_bytes (refined_rest old.scale symbols old.rounds)
  pub count : new.symbols ≡ old.symbols
  pub runs_are : new.runs ≡ acquired_runs symbols
  pub segments_are : new.segments ≡ length (acquired old.scale symbols)
  pub cost_is : new.cost ≡ round_cost old.scale (heard_of symbols) (before_last old.scale old.rounds symbols)
  pub known_are : new.known ≡ known_count (bytes_in (before_last old.scale old.rounds symbols))
  pub moved_are : new.moved ≡ round_moved old.scale (heard_of symbols) (before_last old.scale old.rounds symbols)
