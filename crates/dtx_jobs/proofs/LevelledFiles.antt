-- What `level` answers and writes of all bytes of a file, and of the first of too many.
use Rattle.std.proofs.Common.{◌≡◌, ℕ, ◌<◌, ◌≤◌, List, length, sym, ap, ap₂, ◌∙◌, arith}
use Rattle.std.specs.Prelude.{min, None}
use Rattle.std.specs.List.{range_with_len}
use Rattle.std.proofs.lemmas.Grind.{flat_map-append}
use Rattle.std.proofs.lemmas.List.{map-append, take_all, take-map}
use Rattle.dtx_engine.specs.Made.{both, joined}
use Rattle.dtx_engine.specs.Recipe.{first_refused, meaning_of_file, whole_units}
use Rattle.dtx_files.specs.Symbols.{byte_of_symbol}
use Rattle.dtx_forms.proofs.AllowedFileLemmas.{all_read, first_read, none_found}
use Rattle.dtx_forms.specs.Shapes.{single_bytes}
use Rattle.dtx_recipes.specs.Level.{levelled_files, levelling, levelled_of, levelled_until}
use Rattle.dtx_recipes.specs.SymbolFile.{symbol_of_byte, symbols}
use Rattle.dtx_level.proofs.LevelledLemmas.{all_are_levelled, all_are_measured}
use Rattle.dtx_level.specs.Levelled.{levelled, levelled_rest, levelled_so_far}
use Rattle.dtx_level.specs.Measures.{measure_text, measures_text, measures, measures_rest, measures_so_far}

-- what is made of bytes, and what their end adds, are all that is levelled and measured
all_made : (bytes : List ℕ) → joined (levelling.made bytes) (levelling.rest bytes)
    ≡ levelled_files (levelled (symbols bytes)) (measures (symbols bytes))
all_made bytes =
    let s = symbols bytes in
    ap₂ both (cc (map-append byte_of_symbol (levelled_so_far s) (levelled_rest s), all_are_levelled s))
    (sym (flat_map-append measure_text (measures_so_far s) (measures_rest s)) ∙ ap measures_text (all_are_measured s))

all_allowed : (file : List ℕ) → first_refused single_bytes levelling file ≡ None
unfolding first_refused
all_allowed file = none_found (range_with_len 0 (min (whole_units single_bytes file) single_bytes.limit))

pub all_levelled : (names : List (List ℕ)) (file : List ℕ) → length file ≤ 520832000000
    → meaning_of_file single_bytes levelling names file ≡ levelled_of names file
all_levelled names file few = grind (arith, take_all, all_read, all_allowed, all_made)

pub first_levelled : (names : List (List ℕ)) (file : List ℕ) → 520832000000 < length file
    → meaning_of_file single_bytes levelling names file ≡ levelled_until names file
first_levelled names file many = cc (
  first_read single_bytes levelling names file (all_allowed file) (omega (arith, many)),
  take-map symbol_of_byte 520832000000 file,
)
