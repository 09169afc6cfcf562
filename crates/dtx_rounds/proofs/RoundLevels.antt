-- The segments after a round: the levels of a coder are those of its path.
use Rattle.dtx_rounds.proofs.RunLevels.{level_from}
use Rattle.std.proofs.Common.{◌≡◌, ℕ, ℤ, pos, zero, suc, ◌+◌, ◌-◌, ◌*◌, ◌/◌, ◌%◌, ◌<◌, ◌⊎◌, inl, inr, min, Bool, true}
use Rattle.std.proofs.Common.{false, cond, Option, List, [], ◌∷◌, ◌++◌, length, map, take, drop, get_or, refl, sym, ap}
use Rattle.std.proofs.Common.{ap₂, ◌∙◌, subst, arith}
use Rattle.std.specs.List.{range_with_len}
use Rattle.std.specs.Ordering.{int_eq}
use Rattle.std.proofs.lemmas.Bool.{and_from, and_parts, cases_Bool, cond-false, cond-true, le-leb, leb-true, lt-ltb}
use Rattle.std.proofs.lemmas.Bool.{ltb-true, eqb-true}
use Rattle.std.proofs.lemmas.Bool.Decides.{Decides-int_eq}
use Rattle.std.proofs.lemmas.List.{get_or-append_right, get_or-drop, get_or-map, length-append, length-drop, length-map}
use Rattle.std.proofs.lemmas.List.{length-take, length-take-le}
use Rattle.std.proofs.lemmas.List.FromFn.{get_or-map-range_with_len, length-map-range_with_len}
use Rattle.dtx_lists.proofs.Below.{at_below}
use Rattle.dtx_trellis.specs.Trellis.{symbol_of}
use Rattle.dtx_slice.specs.Slicing.{sliced}
use Rattle.dtx_slice.specs.Unrolled.{symbol_place}
use Rattle.dtx_soft.specs.Coders.{coder_symbols, data_symbol}
use Rattle.dtx_soft.specs.Paths.{IsPath, next_state, symbol_at}
use Rattle.dtx_soft.proofs.SoftenedLemmas.{length-coder}
use Rattle.dtx_receiver.specs.Bytes.{data_at, data_count, groups_of, levels_in}
use Rattle.dtx_acquire.specs.Acquired.{in_groups, decided, scaled_level}
use Rattle.dtx_acquire.specs.Sent.{groups_behind}
use Rattle.dtx_pins.specs.PinnedField.{IsPinned, pinned, pinned_segment}
use Rattle.dtx_rounds.specs.RunField.{AreSegments}
use Rattle.dtx_rounds.specs.Rounds.{groups_in, in_whole_group, paths_in, pins_in, round_segment}
use Rattle.dtx_rounds.proofs.RunLevels.{data_long, data_there, field_of_segment, place_in}

-- ---- groups of a field

pub length-groups : (segments : List (List ℤ)) (f : ℕ)
    → length (groups_in segments f) ≡ 4 * (min 312 (length segments - (313 * f + 1)) / 4)
unfolding groups_behind in_groups
length-groups segments f =
    let rest : List (List ℤ) = take 312 (drop (313 * f + 1) segments) in
    length-take-le (4 * (length rest / 4)) rest (omega arith)
    ∙ ap (λ n. 4 * (n / 4)) (length-take 312 (drop (313 * f + 1) segments)
    ∙ ap (min 312) (length-drop (313 * f + 1) segments))

pub same_groups : (heard given : List (List ℤ)) (f : ℕ) → length heard ≡ length given
    → length (groups_in heard f) ≡ length (groups_in given f)
same_groups heard given f e = grind (arith, length-groups)

number_field : (d : ℕ) → (d + d / 312 + 1) / 313 ≡ d / 312
number_field d = omega arith

number_place : (d : ℕ) → (d + d / 312 + 1) % 313 ≡ d % 312 + 1
number_place d = omega arith

-- where a data segment stands among the groups of its field
pub place_in_groups : (given : List (List ℤ)) (d : ℕ) → d < 4 * groups_of given
    → d % 312 < length (groups_in given (d / 312))
unfolding groups_of data_count
place_in_groups given d l = grind (arith, length-groups)

whole_in : (given : List (List ℤ)) (d : ℕ) → d < 4 * groups_of given → in_whole_group given (d + d / 312 + 1) ≡ true
unfolding in_whole_group
whole_in given d l = grind (arith, and_from, lt-ltb, number_place, le-leb, number_field, place_in_groups)

-- ---- rows

-- the segments after a round under what is known
abbrev pub after : ℕ → List (List ℤ) → List (Option ℕ) → List (List ℤ) → List (List ℤ)
after scale heard known given = map (round_segment scale heard known given) (range_with_len 0 (length given))

pub length-after : (scale : ℕ) (heard given : List (List ℤ)) (known : List (Option ℕ))
    → length (after scale heard known given) ≡ length given
length-after scale heard given known = grind (arith, length-map-range_with_len)

pub groups_after : (scale : ℕ) (heard given : List (List ℤ)) (known : List (Option ℕ))
    → groups_of (after scale heard known given) ≡ groups_of given
unfolding groups_of data_count
groups_after scale heard given known = ap (λ n. (n - (n + 312) / 313) / 4) (length-after scale heard given known)

pub path_row : (scale : ℕ) (pins : List (List ℕ)) (rows : List (List ℤ)) (i : ℕ) → i < length rows
    → length (get_or (pinned scale pins rows) i []) ≡ 832
unfolding pinned pinned_segment
path_row scale pins rows i l = grind (arith, get_or-map-range_with_len, length-map-range_with_len)

pub path_long : (scale : ℕ) (heard : List (List ℤ)) (known : List (Option ℕ)) (f i : ℕ)
    → i < length (groups_in heard f) → length (get_or (paths_in scale heard known f) i []) ≡ 832
unfolding paths_in
path_long scale heard known f i l = path_row scale (pins_in heard known f) (groups_in heard f) i l

row_after : (scale : ℕ) (heard given : List (List ℤ)) (known : List (Option ℕ)) (d : ℕ) → d < 4 * groups_of given
    → data_at (after scale heard known given) d ≡ take 4 (data_at given d)
    ++ map (decided scale) (drop 4 (get_or (paths_in scale heard known (d / 312)) (d % 312) []))
unfolding data_at round_segment
row_after scale heard given known d l =
    grind (arith, number_place, get_or-map-range_with_len, data_there, cond-true, whole_in, number_field)

symbol_after : (scale : ℕ) (heard given : List (List ℤ)) (known : List (Option ℕ)) (d k : ℕ) → AreSegments given
    → length heard ≡ length given → d < 4 * groups_of given → k < 828
    → get_or (data_at (after scale heard known given) d) (4 + k) (pos 0)
    ≡ decided scale (get_or (get_or (paths_in scale heard known (d / 312)) (d % 312) []) (4 + k) (pos 0))
symbol_after scale heard given known d k long same l m =
    let path : List ℤ = get_or (paths_in scale heard known (d / 312)) (d % 312) [] in
    let there : d % 312 < length (groups_in heard (d / 312)) =
    omega (arith, place_in_groups given d l, same_groups heard given (d / 312) same) in
    let full : length path ≡ 832 = path_long scale heard known (d / 312) (d % 312) there in
    let front : length (take 4 (data_at given d)) ≡ 4 = length-take-le 4 (data_at given d) (grind (arith, data_long)) in
    let back : 4 + k - 4 ≡ k = omega arith in
    ap (λ (row : List ℤ). get_or row (4 + k) (pos 0)) (row_after scale heard given known d l)
    ∙ get_or-append_right (take 4 (data_at given d)) (map (decided scale) (drop 4 path)) 4 (4 + k) (pos 0) front
    (omega arith) ∙ ap (λ i. get_or (map (decided scale) (drop 4 path)) i (pos 0)) back
    ∙ get_or-map (decided scale) (drop 4 path) k (pos 0) (pos 0) (omega (arith, m, full, length-drop 4 path))
    ∙ ap (decided scale) (get_or-drop 4 path k (pos 0))

-- ---- levels

pub path_small : (levels : List ℕ) (state t : ℕ) → IsPath state levels → t < length levels → get_or levels t 0 < 8
path_small [] state t h l = absurd (omega arith)
path_small (z ∷ levels) state zero h l = h.0
path_small (z ∷ levels) state (suc t) h l = path_small levels (next_state state z) t h.2 (omega arith)

-- a level's symbol at a scale is decided to be that of the level
abbrev is_decided : ℕ → Bool
is_decided n = int_eq (decided (n / 8 + 1) (symbol_at (n / 8 + 1) (n % 8))) (symbol_at 1 (n % 8))

pub decided_level : (scale z : ℕ) → 0 < scale → scale < 19 → z < 8 → decided scale (symbol_at scale z) ≡ symbol_at 1 z
unfolding scaled_level symbol_at symbol_of
decided_level scale z some most small =
    let second : (8 * (scale - 1) + z) % 8 ≡ z = omega arith in
    sym (ap₂ (λ (c y : ℕ). decided c (symbol_at c y)) (omega arith) second)
    ∙ (Decides-int_eq _ _).0 (at_below is_decided 144 (8 * (scale - 1) + z) refl (omega arith))
    ∙ ap (symbol_at 1) second

-- the symbol of a coder's path
path_symbol : (scale : ℕ) (pins : List (List ℕ)) (rows paths : List (List ℤ)) (e t : ℕ) (l : e < 12)
    (is : IsPinned scale scale pins rows rows paths) → t < 69 * length rows
    → data_symbol paths (symbol_place 0 t e) ≡ symbol_at scale (get_or (is.coders e l).levels t 0)
unfolding coder_symbols
path_symbol scale pins rows paths e t l is m =
    let one = is.coders e l in
    let many : length one.levels ≡ 69 * length rows = one.least.long ∙ length-coder rows e in
    sym (grind (arith, get_or-map-range_with_len)) ∙ ap (λ (xs : List ℤ). get_or xs t (pos 0)) one.symbols
    ∙ get_or-map (symbol_at scale) one.levels t 0 (pos 0) (omega (arith, m, many))

-- what a round's paths are
abbrev pub HasPaths : ℕ → List (List ℤ) → List (Option ℕ) → Type 0
HasPaths scale heard known =
    (f : ℕ) → IsPinned scale scale (pins_in heard known f) (groups_in heard f) (groups_in heard f)
    (paths_in scale heard known f)

-- the levels of coder e in field f
abbrev pub levels_of : (scale : ℕ) (heard : List (List ℤ)) (known : List (Option ℕ)) → HasPaths scale heard known
    → (f e : ℕ) → e < 12 → List ℕ
levels_of scale heard known paths f e l = ((paths f).coders e l).levels

pub step_there : (t n : ℕ) → t / 69 % 312 < n → t % 21528 < 69 * n
step_there t n l = omega arith

-- the level of coder e at step t of a run whose symbols are decided by paths
pub level_by : (scale : ℕ) (run paths : List (List ℤ)) (own : List ℕ) (t e : ℕ) → 0 < scale → scale < 19
    → AreSegments run → t < 276 * groups_of run → get_or (data_at run (t / 69)) (4 + symbol_place 0 t e % 828) (pos 0)
    ≡ decided scale (get_or (get_or paths (t / 69 % 312) []) (4 + symbol_place 0 t e % 828) (pos 0))
    → data_symbol paths (symbol_place 0 (t % 21528) e) ≡ symbol_at scale (get_or own (t % 21528) 0)
    → get_or own (t % 21528) 0 < 8 → get_or (levels_in run) (symbol_place 0 t e) 0 ≡ get_or own (t % 21528) 0
unfolding levels_in sliced symbol_at data_symbol symbol_place
level_by scale run paths own t e some most long m decision path small =
    grind (arith, level_from, place_in, decided_level, eqb-true, at_below)

-- the same after a round
pub level_after : (scale : ℕ) (heard given : List (List ℤ)) (known : List (Option ℕ))
    (paths : HasPaths scale heard known) (t e : ℕ) (l : e < 12) → 0 < scale → scale < 19 → AreSegments given
    → AreSegments (after scale heard known given) → length heard ≡ length given → t < 276 * groups_of given
    → get_or (levels_in (after scale heard known given)) (symbol_place 0 t e) 0
    ≡ get_or (levels_of scale heard known paths (t / 21528) e l) (t % 21528) 0
level_after scale heard given known paths t e l some most long new same m =
    let row : t / 69 < 4 * groups_of given = omega arith in
    let one = (paths (t / 21528)).coders e l in
    let room : t / 69 % 312 < length (groups_in heard (t / 69 / 312)) =
    omega (arith, place_in_groups given (t / 69) row, same_groups heard given (t / 69 / 312) same) in
    let step : t % 21528 < 69 * length (groups_in heard (t / 21528)) =
    step_there t (length (groups_in heard (t / 21528)))
    (subst (λ f. t / 69 % 312 < length (groups_in heard f)) (field_of_segment t) room) in
    level_by scale (after scale heard known given) (paths_in scale heard known (t / 21528)) one.levels t e some most new
    (omega (arith, m, groups_after scale heard given known)) (grind (arith, symbol_after, place_in, field_of_segment))
    (path_symbol scale (pins_in heard known (t / 21528)) (groups_in heard (t / 21528))
    (paths_in scale heard known (t / 21528)) e (t % 21528) l (paths (t / 21528)) step)
    (path_small one.levels one.start (t % 21528) one.least.path
    (omega (arith, step, one.least.long, length-coder (groups_in heard (t / 21528)) e)))

-- ---- rows of 832 symbols

pub in_whole_room : (given : List (List ℤ)) (i : ℕ) → in_whole_group given i ≡ true
    → i % 313 - 1 < length (groups_in given (i / 313))
unfolding in_whole_group
in_whole_room given i e = grind (arith, and_parts, ltb-true, leb-true)

pub after_long : (scale : ℕ) (heard given : List (List ℤ)) (known : List (Option ℕ)) → AreSegments given
    → length heard ≡ length given → AreSegments (after scale heard known given)
unfolding round_segment
after_long scale heard given known long same i l =
    let there : i < length given = omega (arith, l, length-after scale heard given known) in
    ap length (grind (arith, get_or-map-range_with_len)) ∙ by_test there (cases_Bool (in_whole_group given i))
  where
    row : List ℤ
    row = get_or (paths_in scale heard known (i / 313)) (i % 313 - 1) []

    by_test : i < length given → (in_whole_group given i ≡ true) ⊎ (in_whole_group given i ≡ false)
        → length (cond (in_whole_group given i)
        (take 4 (get_or given i []) ++ map (decided scale) (drop 4 row)) (get_or given i [])) ≡ 832
    by_test there (inl e) =
        let room : i % 313 - 1 < length (groups_in heard (i / 313)) =
        omega (arith, in_whole_room given i e, same_groups heard given (i / 313) same) in
        let full = path_long scale heard known (i / 313) (i % 313 - 1) room in
        let front = length-take-le 4 (get_or given i []) (omega (arith, long i there)) in
        ap length (cond-true (in_whole_group given i) _ (get_or given i []) e)
        ∙ length-append (take 4 (get_or given i [])) (map (decided scale) (drop 4 row))
        ∙ ap₂ (λ (a b : ℕ). a + b) front (length-map (drop 4 row) (decided scale) ∙ length-drop 4 row
        ∙ ap (λ n. n - 4) full)
    by_test there (inr e) = ap length (cond-false (in_whole_group given i) _ (get_or given i []) e) ∙ long i there

pub in_whole_some : (given : List (List ℤ)) (i : ℕ) → in_whole_group given i ≡ true → 0 < i % 313
unfolding in_whole_group
in_whole_some given i e = grind (arith, ltb-true, and_parts)
