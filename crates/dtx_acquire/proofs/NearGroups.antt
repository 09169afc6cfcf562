-- Whole groups whose symbols lie near those of paths: these paths are the least ones, and what is restored is what was
-- sent.
use Rattle.std.proofs.Common.{◌≡◌, ℕ, ℤ, pos, zero, suc, ◌+◌, ◌-◌, ◌*◌, ◌/◌, ◌%◌, ◌<◌, ◌≤◌, ◌⊎◌, inl, inr, ◌-ℤ◌, ◌*ℤ◌}
use Rattle.std.proofs.Common.{nat_abs, List, [], ◌∷◌, ◌++◌, length, map, take, drop, get_or, sym, ap, ap₂, ◌∙◌, subst}
use Rattle.std.proofs.Common.{arith}
use Rattle.std.proofs.lemmas.Bool.{cases_lt}
use Rattle.std.proofs.lemmas.Int.{ints}
use Rattle.std.proofs.lemmas.List.{get_or-map, length-map, map-append, take-append-drop}
use Rattle.std.proofs.lemmas.List.FromFn.{get_or-map-range_with_len}
use Rattle.dtx_trellis.specs.Trellis.{symbol_of, coder_at}
use Rattle.dtx_slice.specs.Unrolled.{symbol_place}
use Rattle.dtx_soft.specs.Coders.{IsSoftened, coder_symbols, data_symbol}
use Rattle.dtx_soft.specs.Paths.{IsPath, next_state, symbol_at}
use Rattle.dtx_soft.specs.Softened.{IsOwn, softened}
use Rattle.dtx_soft.proofs.SoftenedLemmas.{coder_small, length-coder, own_place, softened_found}
use Rattle.dtx_acquire.specs.Acquired.{behind_groups, in_groups, restored_data, restored_field}
use Rattle.dtx_acquire.specs.Sent.{IsNear}
use Rattle.dtx_acquire.proofs.NearLevels.{times_symbol}
use Rattle.dtx_acquire.proofs.NearPaths.{AreNearest, costs_same}
use Rattle.dtx_acquire.proofs.NearRows.{AreData, AreNearRows, data_drop, data_take, near_drop, near_take, rows_restored}
use Rattle.dtx_acquire.proofs.SentLemmas.{length_data}
use Rattle.dtx_acquire.proofs.WholeLemmas.{long_softened}

-- ---- places

place_small : (t e n : ℕ) → t < 69 * n → symbol_place 0 t e < 828 * n
unfolding symbol_place
place_small t e n l = omega arith

-- ---- one coder

path_small : (levels : List ℕ) (state t : ℕ) → IsPath state levels → t < length levels → get_or levels t 0 < 8
path_small [] state t h l = absurd (omega arith)
path_small (z ∷ levels) state zero h l = h.0
path_small (z ∷ levels) state (suc t) h l = path_small levels (next_state state z) t h.2 (omega arith)

all_nearest : (scale : ℕ) (symbols : List ℤ) (levels : List ℕ) → length levels ≡ length symbols
    → ((t : ℕ) → t < length symbols → nat_abs (get_or symbols t (pos 0) -ℤ symbol_at scale (get_or levels t 0)) < scale)
    → AreNearest scale symbols levels
all_nearest scale [] levels e h = tt
all_nearest scale (x ∷ symbols) [] e h = absurd (omega arith)
all_nearest scale (x ∷ symbols) (z ∷ levels) e h =
    (h 0 (omega arith), all_nearest scale symbols levels (omega arith) (λ t l. h (suc t) (omega arith)))

coder_at_turn : (segments : List (List ℤ)) (e t : ℕ) → t < 69 * length segments
    → get_or (coder_symbols segments e) t (pos 0) ≡ data_symbol segments (symbol_place 0 t e)
unfolding coder_symbols
coder_at_turn segments e t l = grind (arith, get_or-map-range_with_len)

data_near : (scale : ℕ) (sent rows : List (List ℤ)) (d : ℕ) → AreData sent → AreNearRows scale sent rows
    → d < 828 * length sent → IsNear scale (data_symbol sent d) (data_symbol rows d)
unfolding data_symbol
data_near scale sent rows d h near l = grind (arith, length_data)

-- a level's symbol at scale 1 is the level's
at_one : (z : ℕ) → symbol_at 1 z ≡ symbol_of z
unfolding symbol_at symbol_of
at_one z = (let e : 1 * (2 * z) ≡ 2 * z = omega arith in ap (λ n. pos n -ℤ pos 7) e)

-- the levels of coder e's own path
abbrev HasOwn : List (List ℤ) → Type 0
HasOwn sent = (e : ℕ) → e < 12 → IsOwn 1 (coder_symbols sent e)

long_own : (sent : List (List ℤ)) (e : ℕ) (own : IsOwn 1 (coder_symbols sent e)) → length own.levels ≡ 69 * length sent
long_own sent e own = sym (length-map own.levels (symbol_at 1)) ∙ ap length (sym own.same) ∙ length-coder sent e

own_level : (sent : List (List ℤ)) (e t : ℕ) (own : IsOwn 1 (coder_symbols sent e)) → t < 69 * length sent
    → data_symbol sent (symbol_place 0 t e) ≡ symbol_of (get_or own.levels t 0)
own_level sent e t own l = sym (coder_at_turn sent e t l) ∙ ap (λ (xs : List ℤ). get_or xs t (pos 0)) own.same
    ∙ get_or-map (symbol_at 1) own.levels t 0 (pos 0) (omega (arith, l, long_own sent e own))
    ∙ at_one (get_or own.levels t 0)

nearest_own : (scale : ℕ) (sent rows : List (List ℤ)) (e : ℕ) (own : IsOwn 1 (coder_symbols sent e)) → AreData sent
    → AreNearRows scale sent rows → AreNearest scale (coder_symbols rows e) own.levels
nearest_own scale sent rows e own h near = all_nearest scale (coder_symbols rows e) own.levels
    (long_own sent e own ∙ ap (λ n. 69 * n) (sym near.long) ∙ sym (length-coder rows e))
    (λ t l. at_turn t (omega (arith, l, length-coder rows e, near.long)))
  where
    at_turn : (t : ℕ) → t < 69 * length sent
        → nat_abs (get_or (coder_symbols rows e) t (pos 0) -ℤ symbol_at scale (get_or own.levels t 0)) < scale
    at_turn t l =
        let small = path_small own.levels own.start t own.path (omega (arith, l, long_own sent e own)) in
        subst (λ (x : ℤ). nat_abs (x -ℤ symbol_at scale (get_or own.levels t 0)) < scale)
        (sym (grind (arith, coder_at_turn))) (subst (λ y. nat_abs (data_symbol rows (symbol_place 0 t e) -ℤ y) < scale)
        (ap (λ x. pos scale *ℤ x) (own_level sent e t own l) ∙ times_symbol scale (get_or own.levels t 0) small)
        (data_near scale sent rows (symbol_place 0 t e) h near (place_small t e (length sent) l)))

-- its least path is the one that was sent
found_own : (scale : ℕ) (sent rows new : List (List ℤ)) (e : ℕ) (own : IsOwn 1 (coder_symbols sent e)) → e < 12
    → AreData sent → AreNearRows scale sent rows → IsSoftened scale rows new
    → coder_symbols new e ≡ map (symbol_at scale) own.levels
found_own scale sent rows new e own l h near is =
    let found = is.coders e l in
    let long : length own.levels ≡ length (coder_symbols rows e) =
    long_own sent e own ∙ ap (λ n. 69 * n) (sym near.long) ∙ sym (length-coder rows e) in
    found.symbols ∙ ap (map (symbol_at scale)) (costs_same scale (coder_symbols rows e) own.levels found.levels long
    found.least.long (grind (arith, nearest_own)) (found.least.least own.start own.levels own.begins long own.path))

-- ---- all coders

same_near : (scale z : ℕ) → 0 < scale → z < 8 → IsNear scale (symbol_of z) (symbol_at scale z)
same_near scale z l m = grind (arith, times_symbol, ints)

softened_near : (scale : ℕ) (sent rows new : List (List ℤ)) (d : ℕ) → 0 < scale → HasOwn sent → AreData sent
    → AreNearRows scale sent rows → IsSoftened scale rows new → d < 828 * length sent
    → IsNear scale (data_symbol sent d) (data_symbol new d)
softened_near scale sent rows new d some owns h near is l =
    let own = owns (coder_at 0 d) (coder_small d) in
    let small = path_small own.levels own.start (d / 12) own.path (omega (arith, long_own sent (coder_at 0 d) own)) in
    subst (λ k. IsNear scale (data_symbol sent k) (data_symbol new k)) (own_place d)
    (subst (λ x. IsNear scale x (data_symbol new (symbol_place 0 (d / 12) (coder_at 0 d))))
    (sym (own_level sent (coder_at 0 d) (d / 12) own (omega arith)))
    (subst (IsNear scale (symbol_of (get_or own.levels (d / 12) 0)))
    (sym (sym (coder_at_turn new (coder_at 0 d) (d / 12) (omega (arith, is.long, near.long)))
    ∙ ap (λ (xs : List ℤ). get_or xs (d / 12) (pos 0))
    (found_own scale sent rows new (coder_at 0 d) own (coder_small d) h near is)
    ∙ get_or-map (symbol_at scale) own.levels (d / 12) 0 (pos 0) (omega (arith, long_own sent (coder_at 0 d) own))))
    (same_near scale (get_or own.levels (d / 12) 0) some small)))

softened_rows : (scale : ℕ) (sent rows : List (List ℤ)) → 0 < scale → HasOwn sent → AreData sent
    → AreNearRows scale sent rows → AreNearRows scale sent (softened scale rows)
unfolding data_symbol
softened_rows scale sent rows some owns h near =
    let is = softened_found scale rows in
    record {
      long = is.long ∙ near.long;
      each = λ i l. (grind (arith, long_softened, length_data, by_place, cases_lt));
    }
  where
    by_place : (i k : ℕ) → i < length sent → k < 832 → IsSoftened scale rows (softened scale rows) → (k < 4) ⊎ (4 ≤ k)
        → IsNear scale (get_or (get_or sent i []) k (pos 0)) (get_or (get_or (softened scale rows) i []) k (pos 0))
    by_place i k l m is (inl n) = subst (IsNear scale (get_or (get_or sent i []) k (pos 0))) (sym (is.syncs i k n))
        ((near.each i l).near k (omega (arith, m, length_data (get_or sent i []) (h i l))))
    by_place i k l m is (inr n) =
        let d : (828 * i + (k - 4)) / 828 ≡ i = omega arith in
        let there : 4 + (828 * i + (k - 4)) % 828 ≡ k = omega arith in
        moved (828 * i + (k - 4)) d there
        (softened_near scale sent rows (softened scale rows) (828 * i + (k - 4)) some owns h near is (omega arith))
      where
        moved : (d : ℕ) → d / 828 ≡ i → 4 + d % 828 ≡ k
            → IsNear scale (data_symbol sent d) (data_symbol (softened scale rows) d)
            → IsNear scale (get_or (get_or sent i []) k (pos 0)) (get_or (get_or (softened scale rows) i []) k (pos 0))
        moved d e f g = subst (λ j. IsNear scale (get_or (get_or sent i []) j (pos 0))
            (get_or (get_or (softened scale rows) i []) j (pos 0))) f
            (subst (λ j. IsNear scale (get_or (get_or sent j []) (4 + d % 828) (pos 0))
            (get_or (get_or (softened scale rows) j []) (4 + d % 828) (pos 0))) e g)

-- ---- a field

pub field_restored : (scale : ℕ) (sent rows : List (List ℤ)) → 0 < scale → AreData sent → HasOwn (in_groups sent)
    → AreNearRows scale sent rows → restored_field scale rows ≡ sent
unfolding restored_field in_groups behind_groups
field_restored scale sent rows some h owns near =
    let n = 4 * (length sent / 4) in
    ap (λ k. map (restored_data scale) (softened scale (take (4 * (k / 4)) rows) ++ drop (4 * (k / 4)) rows)) near.long
    ∙ map-append (restored_data scale) (softened scale (take n rows)) (drop n rows)
    ∙ ap₂ ◌++◌ (rows_restored scale (take n sent) (softened scale (take n rows)) (data_take n sent (omega arith) h)
    (softened_rows scale (take n sent) (take n rows) some owns (data_take n sent (omega arith) h)
    (near_take scale n sent rows (omega arith) near)))
    (rows_restored scale (drop n sent) (drop n rows) (data_drop n sent h) (near_drop scale n sent rows near))
    ∙ take-append-drop n sent
