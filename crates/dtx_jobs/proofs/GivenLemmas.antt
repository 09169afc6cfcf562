-- Lemmas of what is received of a whole symbol file, whichever receiver it is; its bytes may have damage laid over
-- them.
use Rattle.std.proofs.Common.{◌≡◌, ◌≢◌, ◌↔◌, ℕ, ◌*◌, ◌%◌, ◌<◌, ◌≤◌, List, [], length, take, drop, sym, ap, ◌∙◌, arith}
use Rattle.std.specs.Prelude.{ℤ, min, None}
use Rattle.std.specs.List.{range_with_len}
use Rattle.std.proofs.lemmas.Bool.{cond-false, cond-true, eq-eqb, ne_eqb}
use Rattle.std.proofs.lemmas.List.{take_at, take-append-drop, length-take-le}
use Rattle.dtx_plan.specs.declared.damage.Damage.{Damage}
use Rattle.dtx_make.specs.Hurt.{hurt, damaged_bytes}
use Rattle.dtx_make.proofs.LaidLemmas.{hurt-append, length-hurt}
use Rattle.dtx_receiver.specs.Intervals.{NoneLooks}
use Rattle.dtx_receiver.proofs.IntervalsLemmas.{no_runs}
use Rattle.dtx_receiver.specs.Runs.{runs}
use Rattle.dtx_meaning.specs.Meaning.{Meaning}
use Rattle.dtx_meaning.specs.Status.{done, ended}
use Rattle.dtx_meaning.specs.declared.status.Outcome.{Outcome}
use Rattle.dtx_meaning.specs.declared.status.Status.TheVariants.{Done, NoSync}
use Rattle.dtx_engine.specs.Recipe.{first_refused, meaning_at, meaning_of_file, whole_units}
use Rattle.dtx_engine.specs.declared.piece.Ending.TheVariants.{Whole}
use Rattle.dtx_forms.proofs.AllowedFileLemmas.{all_read, first_read, none_found}
use Rattle.dtx_forms.specs.Shapes.{segments}
use Rattle.dtx_forms.specs.Damaged.{damaged_making}
use Rattle.dtx_recipes.specs.Giving.{Giving, IsGiving, all_bytes, answer_of, given_numbers, given_of, given_until}
use Rattle.dtx_recipes.specs.Giving.{no_sync_in, receiving_by}
use Rattle.dtx_jobs.proofs.GivingLemmas.{bytes_of-all, receives_whole}
use Rattle.dtx_recipes.specs.SymbolFile.{file_segments, whole_segments}
use Rattle.dtx_jobs.proofs.SymbolFileLemmas.{file_segments-whole, first_segments, length-segments_of}

-- ---- all units are allowed

pub all_allowed : (giving : Giving) (file : List ℕ) → first_refused segments (receiving_by giving) file ≡ None
unfolding first_refused
all_allowed giving file = none_found (range_with_len 0 (min (whole_units segments file) segments.limit))

all_damaged_allowed : (giving : Giving) (damage : List Damage) (file : List ℕ)
    → first_refused segments (damaged_making damage (receiving_by giving)) file ≡ None
unfolding first_refused
all_damaged_allowed giving damage file = none_found (range_with_len 0 (min (whole_units segments file) segments.limit))

-- ---- of all segments

-- only the whole segments count
given_front : (giving : Giving) → IsGiving giving → (names : List (List ℕ)) (file : List ℕ) (loose : ℕ)
    → meaning_at (receiving_by giving) names (take (832 * whole_segments file) file) (Whole loose)
    ≡ given_of giving names file loose
given_front giving is names file loose = grind (arith, file_segments-whole, receives_whole)

-- a symbol file with no more segments than are received
pub all_given : (giving : Giving) → IsGiving giving → (names : List (List ℕ)) (file : List ℕ)
    → whole_segments file ≤ 626000000
    → meaning_of_file segments (receiving_by giving) names file ≡ given_of giving names file (length file % 832)
all_given giving is names file few = grind (arith, all_read, all_allowed, given_front)

-- and one with more: what the first ones give while they come
pub first_given : (giving : Giving) (names : List (List ℕ)) (file : List ℕ) → 626000000 < whole_segments file
    → meaning_of_file segments (receiving_by giving) names file ≡ given_until giving names file
first_given giving names file many = cc (
  first_read segments (receiving_by giving) names file (all_allowed giving file) many,
  first_segments file 626000000 (omega (arith, many)),
)

-- the first bytes of a damaged file are the damaged first bytes
hurt_front : (damage : List Damage) (file : List ℕ) (n : ℕ) → n ≤ length file
    → hurt damage (take n file) ≡ take n (hurt damage file)
hurt_front damage file n within =
    let front : List ℕ = take n file in
    let long : length (hurt damage front) ≡ n = length-hurt damage front ∙ length-take-le n file within in
    sym (ap (take n) (ap (hurt damage) (sym (take-append-drop n file)) ∙ hurt-append damage front (drop n file))
    ∙ take_at (hurt damage front) (damaged_bytes damage (length front) (drop n file)) n long)

-- and one that is damaged as it is read
pub all_damaged_given : (giving : Giving) → IsGiving giving → (names : List (List ℕ)) (damage : List Damage)
    (file : List ℕ) → whole_segments file ≤ 626000000
    → meaning_of_file segments (damaged_making damage (receiving_by giving)) names file
    ≡ given_of giving names (hurt damage file) (length file % 832)
all_damaged_given giving is names damage file few =
    grind (arith, length-hurt, all_read, all_damaged_allowed, hurt_front, given_front)

-- ---- where something looks like a field sync, and where nothing does

-- there is no run just where no segment of a file does
pub no_run_in : (file : List ℕ)
    → (length (runs (file_segments file)) ≡ 0) ↔ NoneLooks (file_segments file) 0 (whole_segments file)
no_run_in file = grind (arith, length-segments_of, no_runs)

pub sync_answered : (giving : Giving) (list : List (List ℤ)) (loose : ℕ) → length (runs list) ≢ 0
    → answer_of giving list loose ≡ done (given_numbers giving list loose)
sync_answered giving list loose some = cond-false _ _ _ (ne_eqb (length (runs list)) 0 some)

-- there is no packet
pub nothing_given : (giving : Giving) → IsGiving giving → (file : List ℕ) → length (runs (file_segments file)) ≡ 0
    → all_bytes giving file ≡ []
nothing_given giving is file none = grind (arith, bytes_of-all)

pub no_sync_answered : (giving : Giving) (list : List (List ℤ)) (loose : ℕ) → length (runs list) ≡ 0
    → answer_of giving list loose ≡ ended NoSync
no_sync_answered giving list loose none = cond-true _ _ _ (eq-eqb (length (runs list)) 0 none)

-- what is answered and written then, of a file with no more segments than are received
pub nothing_received : (giving : Giving) → IsGiving giving → (names : List (List ℕ)) (file : List ℕ)
    → whole_segments file ≤ 626000000 → NoneLooks (file_segments file) 0 (whole_segments file)
    → meaning_of_file segments (receiving_by giving) names file ≡ no_sync_in names
nothing_received giving is names file few none = grind (arith, no_run_in, all_given, no_sync_answered, nothing_given)

-- and where one does
pub done_received : (giving : Giving) → IsGiving giving → (names : List (List ℕ)) (file : List ℕ)
    → whole_segments file ≤ 626000000 → (NoneLooks (file_segments file) 0 (whole_segments file) → ⊥)
    → (meaning_of_file segments (receiving_by giving) names file).outcome.status ≡ Done
done_received giving is names file few some =
    ap (λ (m : Meaning). m.outcome.status) (all_given giving is names file few)
    ∙ ap (λ (o : Outcome). o.status) (sync_answered giving (file_segments file) (length file % 832)
    (λ e. some ((no_run_in file).0 e)))
