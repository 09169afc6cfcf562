-- What the engine of `level` keeps.
use Rattle.std.specs.Prelude.{◌≡◌, ◌++◌, ℕ, ℤ, List, [], map, replicate, vec_len}
use Rattle.dtx_files.specs.Symbols.{byte_of_symbol}
use Rattle.dtx_forms.specs.declared.shapes.TheConstants.{PIECE_BYTES}
use Rattle.dtx_recipes.specs.SymbolFile.{symbols}
use Rattle.dtx_jobs.specs.declared.levelling.Brought.{Brought}
use Rattle.dtx_jobs.specs.declared.levelling.Levelling.{Levelling}
use Rattle.dtx_level.specs.Levelled.{levelled_so_far}
use Rattle.dtx_level.specs.Leveller.{Holding, StandsFor}
use Rattle.dtx_level.specs.Measures.{measures_text, measures_so_far}

-- the engine stands for these bytes, one for each symbol: they are all that was given to it
pub record WasLevelled (kept : Levelling) (bytes : List ℕ) : Type 0 where
  pub room : vec_len kept.piece ≡ PIECE_BYTES
  pub stands : StandsFor kept.leveller (symbols bytes)

-- the bytes of the symbols that a piece brought: the zeros, and the symbols behind them
abbrev pub bytes_brought : Brought → List ℕ
bytes_brought brought = replicate brought.zeros 0 ++ brought.symbols

-- nothing was brought
pub record IsEmpty (brought : Brought) : Type 0 where
  pub zeros : brought.zeros ≡ 0
  pub symbols_are : brought.symbols ≡ []
  pub lines : brought.lines ≡ []

-- A leveller went from `old` to `new` by these symbols, whatever it was given before, and they brought `brought`.
pub record WereLevelled (old new : Holding) (given : List ℤ) (brought : Brought) : Type 0 where
  pub stands : (before : List ℤ) → StandsFor old before → StandsFor new (before ++ given)
  pub symbols_are : (before : List ℤ) → StandsFor old before
      → map byte_of_symbol (levelled_so_far (before ++ given))
      ≡ map byte_of_symbol (levelled_so_far before) ++ bytes_brought brought
  pub lines : (before : List ℤ) → StandsFor old before
      → measures_text (measures_so_far (before ++ given)) ≡ measures_text (measures_so_far before) ++ brought.lines
