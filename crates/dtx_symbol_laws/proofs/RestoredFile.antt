-- What a command that restores segments answers and writes of all bytes of a file, and of the first of too many.
use Rattle.std.proofs.Common.{◌≡◌, ◌≢◌, ◌↔◌, ℕ, ℤ, ◌<◌, ◌≤◌, List, [], ◌++◌, length, take, drop, cond, sym, ap, ◌∙◌}
use Rattle.std.proofs.Common.{arith}
use Rattle.std.specs.Prelude.{min, ◌==◌, None}
use Rattle.std.specs.List.{range_with_len}
use Rattle.std.proofs.lemmas.Bool.{cases_eq, cond-false, cond-true, eq-eqb, ne_eqb}
use Rattle.std.proofs.lemmas.List.{append_assoc, take_all, take-append-drop, take-map}
use Rattle.dtx_meaning.specs.Status.{ended}
use Rattle.dtx_meaning.specs.declared.status.Outcome.{Outcome}
use Rattle.dtx_meaning.specs.declared.status.Status.TheVariants.{Done, NoSync, TooLong}
use Rattle.dtx_engine.specs.Made.{joined, only}
use Rattle.dtx_engine.specs.Recipe.{first_refused, meaning_of_file, whole_units}
use Rattle.dtx_files.proofs.AppendedLemmas.{segment_bytes-append}
use Rattle.dtx_files.specs.Symbols.{segment_bytes}
use Rattle.dtx_forms.proofs.AllowedFileLemmas.{all_read, first_read, none_found}
use Rattle.dtx_forms.specs.Shapes.{single_bytes}
use Rattle.dtx_recipes.specs.Giving.{no_sync_in}
use Rattle.dtx_recipes.specs.Restoring.{IsRestoring, Restoring, restoring_by}
use Rattle.dtx_recipes.specs.SymbolFile.{symbol_of_byte, symbols}
use Rattle.dtx_symbol_laws.specs.RestoredFile.{restored_until, restored_with}

-- the answer, where so many runs are counted
abbrev pub by_runs : ℕ → Outcome → Outcome
by_runs runs some = cond (runs == 0) (ended NoSync) some

-- All that is restored of symbols, from so many runs, and the answer where there is a run.
pub record IsRestored (restoring : Restoring) (symbols : List ℤ) (all : List (List ℤ)) (runs : ℕ) (some : Outcome)
    : Type 0 where
  pub parts : restoring.so_far symbols ++ restoring.rest symbols ≡ all
  pub none : (runs ≡ 0) ↔ (all ≡ [])
  pub answer : restoring.answer symbols ≡ by_runs runs some
  pub done : some.status ≡ Done

-- ---- what is restored

-- what is restored of first symbols while they come is a front part of what all give
pub first_restored : (restoring : Restoring) → IsRestoring restoring → (symbols : List ℤ) (all : List (List ℤ)) (n : ℕ)
    → restoring.so_far symbols ++ restoring.rest symbols ≡ all
    → (rest : List (List ℤ)) × (all ≡ restoring.so_far (take n symbols) ++ rest)
first_restored restoring is symbols all n parts =
    let on = is.grows (take n symbols) (drop n symbols) in
    (grind (arith, take-append-drop, append_assoc))

-- ---- the answer

some_answered : (runs : ℕ) (some : Outcome) → runs ≢ 0 → by_runs runs some ≡ some
some_answered runs some e = cond-false (runs == 0) (ended NoSync) some (ne_eqb runs 0 e)

none_answered : (runs : ℕ) (some : Outcome) → runs ≡ 0 → by_runs runs some ≡ ended NoSync
none_answered runs some e = cond-true (runs == 0) (ended NoSync) some (eq-eqb runs 0 e)

status_is : (runs : ℕ) (some : Outcome) → some.status ≡ Done → ((by_runs runs some).status ≡ NoSync) ↔ (runs ≡ 0)
status_is runs some done = grind (arith, cases_eq, none_answered, some_answered)

-- the answer is `NoSync` where nothing is restored
pub no_sync : (restoring : Restoring) (symbols : List ℤ) (all : List (List ℤ)) (runs : ℕ) (some : Outcome)
    → IsRestored restoring symbols all runs some → ((restoring.answer symbols).status ≡ NoSync) ↔ (all ≡ [])
no_sync restoring symbols all runs some is = grind (arith, status_is)

-- ---- the file

all_allowed : (restoring : Restoring) (file : List ℕ) → first_refused single_bytes (restoring_by restoring) file ≡ None
unfolding first_refused
all_allowed restoring file = none_found (range_with_len 0 (min (whole_units single_bytes file) single_bytes.limit))

-- what is made of bytes, and what their end adds, are all that is restored
all_made : (restoring : Restoring) (file : List ℕ) (all : List (List ℤ))
    → restoring.so_far (symbols file) ++ restoring.rest (symbols file) ≡ all
    → joined ((restoring_by restoring).made file) ((restoring_by restoring).rest file) ≡ only (segment_bytes all)
all_made restoring file all parts = grind (arith, segment_bytes-append)

-- what is answered of all bytes, and what is written
bytes_restored : (restoring : Restoring) (names : List (List ℕ)) (file : List ℕ) (all : List (List ℤ))
    → restoring.so_far (symbols file) ++ restoring.rest (symbols file) ≡ all → length file ≤ 520832000000
    → meaning_of_file single_bytes (restoring_by restoring) names file
    ≡ restored_with names (restoring.answer (symbols file)) all
bytes_restored restoring names file all parts few = grind (arith, take_all, all_read, all_allowed, all_made)

-- where something is restored
pub some_restored : (restoring : Restoring) (names : List (List ℕ)) (file : List ℕ) (all : List (List ℤ)) (runs : ℕ)
    (some : Outcome) → IsRestored restoring (symbols file) all runs some → length file ≤ 520832000000 → all ≢ []
    → meaning_of_file single_bytes (restoring_by restoring) names file ≡ restored_with names some all
some_restored restoring names file all runs some is few there = grind (arith, bytes_restored, some_answered)

-- where nothing is
pub none_restored : (restoring : Restoring) (names : List (List ℕ)) (file : List ℕ) (all : List (List ℤ)) (runs : ℕ)
    (some : Outcome) → IsRestored restoring (symbols file) all runs some → length file ≤ 520832000000 → all ≡ []
    → meaning_of_file single_bytes (restoring_by restoring) names file ≡ no_sync_in names
none_restored restoring names file all runs some is few nothing = grind (arith, bytes_restored, none_answered)

-- and where there are too many bytes
pub until_restored : (restoring : Restoring) (names : List (List ℕ)) (file : List ℕ) → 520832000000 < length file
    → meaning_of_file single_bytes (restoring_by restoring) names file ≡ restored_until restoring names file
until_restored restoring names file many =
    first_read single_bytes (restoring_by restoring) names file (all_allowed restoring file) (omega (arith, many))
    ∙ ap (λ (given : List ℤ). restored_with names (ended TooLong) (restoring.so_far given))
    (sym (take-map symbol_of_byte 520832000000 file))
