-- What `repeat` answers and writes of all segments of a symbol file, of one without a run, and of one that is too long.
use Rattle.std.proofs.Common.{◌≡◌, ℕ, ◌*◌, ◌%◌, ◌<◌, ◌≤◌, List, [], ◌∷◌, length, map, take, refl, ap, ◌∙◌, arith}
use Rattle.std.specs.Prelude.{ℤ, min, None}
use Rattle.std.specs.List.{range_with_len}
use Rattle.std.proofs.lemmas.Bool.{cond-false, cond-true, eq-eqb, ne_eqb}
use Rattle.dtx_receiver.specs.Intervals.{NoneLooks}
use Rattle.dtx_receiver.specs.Runs.{runs}
use Rattle.dtx_exciter.specs.Log.{log}
use Rattle.dtx_repeat.specs.Lives.{life_of, lives, lives_so_far}
use Rattle.dtx_meaning.specs.Meaning.{Meaning}
use Rattle.dtx_meaning.specs.Status.{done, ended}
use Rattle.dtx_meaning.specs.declared.status.Outcome.{Outcome}
use Rattle.dtx_meaning.specs.declared.status.Status.TheVariants.{NoSync, TooLong}
use Rattle.dtx_engine.specs.Made.{Made, only, outputs_of}
use Rattle.dtx_engine.specs.Recipe.{first_refused, meaning_at, meaning_of_file}
use Rattle.dtx_engine.specs.declared.piece.Ending.TheVariants.{Whole}
use Rattle.dtx_forms.proofs.AllowedFileLemmas.{all_read, first_read, none_found}
use Rattle.dtx_forms.specs.Shapes.{segments}
use Rattle.dtx_recipes.specs.Giving.{no_sync_in}
use Rattle.dtx_jobs.proofs.GivenLemmas.{no_run_in}
use Rattle.dtx_recipes.specs.Repeat.{repeat_answer, repeating, sent_in}
use Rattle.dtx_jobs.proofs.RepeatLemmas.{repeats_all}
use Rattle.dtx_recipes.specs.SymbolFile.{file_segments, whole_segments}
use Rattle.dtx_jobs.proofs.SymbolFileLemmas.{file_segments-whole, first_segments, length-segments_of}
use Rattle.dtx_symbol_laws.specs.RepeatedFiles.{repeated_of, repeated_outputs, repeated_until}

all_allowed : (a d : ℕ) (file : List ℕ) → first_refused segments (repeating a d) file ≡ None
unfolding first_refused
all_allowed a d file = none_found (range_with_len 0 (min (whole_segments file) segments.limit))

-- only the whole segments count
repeated_front : (a d : ℕ) (names : List (List ℕ)) (file : List ℕ) (loose : ℕ)
    → meaning_at (repeating a d) names (take (832 * whole_segments file) file) (Whole loose) ≡ record {
      outcome = repeat_answer a d (file_segments file) loose;
      outputs = outputs_of names (repeated_outputs a d (file_segments file));
    }
repeated_front a d names file loose = grind (arith, file_segments-whole, repeats_all)

answered : (a d : ℕ) (names : List (List ℕ)) (file : List ℕ) → whole_segments file ≤ 626000000
    → meaning_of_file segments (repeating a d) names file ≡ record {
      outcome = repeat_answer a d (file_segments file) (length file % 832);
      outputs = outputs_of names (repeated_outputs a d (file_segments file));
    }
answered a d names file few = grind (arith, all_read, all_allowed, repeated_front)

-- where a segment looks like a field sync
pub all_repeated : (a d : ℕ) (names : List (List ℕ)) (file : List ℕ) → whole_segments file ≤ 626000000
    → (NoneLooks (file_segments file) 0 (whole_segments file) → ⊥)
    → meaning_of_file segments (repeating a d) names file ≡ repeated_of a d names file
all_repeated a d names file few some = grind (arith, answered, cond-false, ne_eqb, no_run_in, length-segments_of)

-- ---- no run

empty : (runs : List (List (List ℤ))) → length runs ≡ 0 → runs ≡ []
empty [] none = refl
empty (run ∷ more) none = absurd (omega (arith, none))

no_life : (list : List (List ℤ)) → length (runs list) ≡ 0 → lives list ≡ []
unfolding lives
no_life list none = ap (map life_of) (empty (runs list) none)

nothing_made : (a d : ℕ) → sent_in a d [] ≡ only []
unfolding log
nothing_made a d = refl

pub nothing_repeated : (a d : ℕ) (names : List (List ℕ)) (file : List ℕ) → whole_segments file ≤ 626000000
    → NoneLooks (file_segments file) 0 (whole_segments file)
    → meaning_of_file segments (repeating a d) names file ≡ no_sync_in names
nothing_repeated a d names file few none = grind (arith, no_run_in, answered, cond-true, eq-eqb, no_life, nothing_made)

-- ---- more segments than may be

pub first_repeated : (a d : ℕ) (names : List (List ℕ)) (file : List ℕ) → 626000000 < whole_segments file
    → meaning_of_file segments (repeating a d) names file ≡ repeated_until a d names file
first_repeated a d names file many = first_read segments (repeating a d) names file (all_allowed a d file) many
    ∙ ap (λ (list : List (List ℤ)). record {
      outcome = ended TooLong;
      outputs = outputs_of names (sent_in a d (lives_so_far list));
    }) (first_segments file 626000000 (omega (arith, many)))
