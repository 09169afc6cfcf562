-- What the commands that restore segments make of a capture.
use Rattle.std.specs.Prelude.{◌≡◌, ◌++◌, ℤ, true, List, []}
use Rattle.dtx_engine.specs.Made.{only}
use Rattle.dtx_engine.specs.Recipe.{Recipe}
use Rattle.dtx_files.specs.Symbols.{segment_bytes}
use Rattle.dtx_meaning.specs.declared.status.Outcome.{Outcome}
use Rattle.dtx_recipes.specs.SymbolFile.{symbols}

-- What is made of a capture's symbols: segments that are restored whatever follows, those that the symbols' end adds,
-- and the answer.
pub record Restoring : Type 0 where
  pub so_far : List ℤ → List (List ℤ)
  pub rest : List ℤ → List (List ℤ)
  pub answer : List ℤ → Outcome

-- the recipe of a command that writes these segments
abbrev pub restoring_by : Restoring → Recipe
restoring_by restoring = record {
  allows = λ _ _. true;
  made = λ bytes. only (segment_bytes (restoring.so_far (symbols bytes)));
  rest = λ bytes. only (segment_bytes (restoring.rest (symbols bytes)));
  answer = λ bytes loose. restoring.answer (symbols bytes);
}

-- Of no symbols no segment is restored, and more symbols only add segments.
pub record IsRestoring (restoring : Restoring) : Type 0 where
  pub starts : restoring.so_far [] ≡ []
  pub grows : (some more : List ℤ) → (others : List (List ℤ))
      × (restoring.so_far (some ++ more) ≡ restoring.so_far some ++ others)
