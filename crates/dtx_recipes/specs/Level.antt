-- What `level IN OUT LOG` means: it writes the symbols of a capture at eight steps a unit, and a line for each field
-- sync (the profile's own).
use Rattle.std.specs.Prelude.{ℕ, ℤ, true, List, [], ◌∷◌, length, map, take}
use Rattle.dtx_engine.specs.Made.{Made, outputs_of}
use Rattle.dtx_engine.specs.Recipe.{Recipe}
use Rattle.dtx_files.specs.Symbols.{byte_of_symbol}
use Rattle.dtx_forms.specs.Job.{Job}
use Rattle.dtx_forms.specs.Logged.{logged_job}
use Rattle.dtx_forms.specs.Shapes as shapes
use Rattle.dtx_recipes.specs.SymbolFile.{symbols}
use Rattle.dtx_recipes.specs.Synced.{synced}
use Rattle.dtx_level.specs.Levelled.{levelled_rest, levelled_so_far, levelled}
use Rattle.dtx_level.specs.Measures.{measures_text, measures_rest, measures_so_far, measures}
use Rattle.dtx_level.specs.Syncs.{all_syncs, slips}
use Rattle.dtx_level.specs.declared.measure.Measure.{Measure}
use Rattle.dtx_meaning.specs.declared.status.Outcome.{Outcome}
use Rattle.dtx_words.specs.declared.rows.Command.TheVariants.{Level}
use Rattle.dtx_meaning.specs.Meaning.{Meaning}
use Rattle.dtx_meaning.specs.Status.{ended}
use Rattle.dtx_meaning.specs.declared.status.Status.TheVariants.{TooLong}
use Rattle.dtx_sizes.specs.declared.limits.TheConstants.{MOST_SYMBOLS}

-- OUT and LOG: a byte for each symbol, and a line for each sync that was measured
abbrev pub levelled_files : List ℤ → List Measure → Made
levelled_files symbols measures =
    record { first = map byte_of_symbol symbols; second = measures_text measures }

-- The answer: `NoSync` where there is no sync. Else the numbers are the symbols, the syncs, and the syncs that don't
-- lie a multiple of 313 segments behind the one before.
abbrev pub levelled_answer : ℕ → ℕ → ℕ → Outcome
levelled_answer symbols syncs slips = synced syncs (symbols ∷ syncs ∷ slips ∷ [])

abbrev pub level_answer : List ℤ → Outcome
level_answer symbols = levelled_answer (length symbols) (length (all_syncs symbols)) (slips (all_syncs symbols))

-- the recipe
abbrev pub levelling : Recipe
levelling = record {
  allows = λ _ _. true;
  made = λ bytes. levelled_files (levelled_so_far (symbols bytes)) (measures_so_far (symbols bytes));
  rest = λ bytes. levelled_files (levelled_rest (symbols bytes)) (measures_rest (symbols bytes));
  answer = λ bytes loose. level_answer (symbols bytes);
}

-- the command `level IN OUT LOG`
abbrev pub level_job : Job
level_job = logged_job Level shapes.single_bytes levelling

-- for a file that isn't too long; each byte is a symbol
abbrev pub levelled_of : List (List ℕ) → List ℕ → Meaning
levelled_of names file = record {
  outcome = level_answer (symbols file);
  outputs = outputs_of names (levelled_files (levelled (symbols file)) (measures (symbols file)));
}

-- For a file of more than MOST_SYMBOLS bytes: the answer is `TooLong`. The outputs are what is known after the first
-- MOST_SYMBOLS symbols, whatever follows them.
abbrev pub levelled_until : List (List ℕ) → List ℕ → Meaning
levelled_until names file = record {
  outcome = ended TooLong;
  outputs = outputs_of names
      (levelled_files (levelled_so_far (take MOST_SYMBOLS (symbols file)))
      (measures_so_far (take MOST_SYMBOLS (symbols file))));
}
