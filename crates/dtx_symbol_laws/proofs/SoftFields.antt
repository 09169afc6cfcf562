-- The fields of the runs: what is field_sum in them, and what they become.
use Rattle.std.proofs.Common.{◌≡◌, ℕ, ℤ, zero, suc, ◌+◌, ◌-◌, ◌*◌, ◌/◌, ◌%◌, ◌<◌, ◌≤◌, ◌≢◌, ◌⊎◌, inl, inr, None, List}
use Rattle.std.proofs.Common.{[], ◌∷◌, ◌++◌, length, map, take, drop, get_or, min, refl, sym, ap, ap₂, ◌∙◌, arith}
use Rattle.std.specs.Prelude.{IfSome}
use Rattle.std.specs.List.{range_with_len, flat_map, sum_by}
use Rattle.std.proofs.lemmas.Bool.{cases_eq, cases_lt}
use Rattle.std.proofs.lemmas.Simd.{map-map}
use Rattle.std.proofs.lemmas.List.{drop-drop, drop-take, get_or-drop, get_or-take, get_or_past, length-drop}
use Rattle.std.proofs.lemmas.List.{length-take, length-take-le, map-append, take-take, take_all}
use Rattle.std.proofs.lemmas.List.Folds.{flat_map-map}
use Rattle.std.proofs.lemmas.List.FromFn.{fill_by_all, get_or-map-range_with_len, length-map-range_with_len}
use Rattle.std.proofs.lemmas.List.Sums.{sum_by-append, sum_by-cons}
use Rattle.dtx_lists.proofs.Range.{map-range_same}
use Rattle.dtx_receiver.specs.Intervals.{AreRuns, IsRun, NoneLooks, segments_in}
use Rattle.dtx_receiver.proofs.IntervalsLemmas.{are_runs, only_runs}
use Rattle.dtx_soft.specs.Softened.{softened, softened_segment}
use Rattle.dtx_soft.proofs.SumsLemmas.{none_first, over, over_more, over_none, over_one, over_parts, over_same}
use Rattle.dtx_recipes.specs.Soft.{count_from, field_sum, groups_in, in_groups, place_at, soft_at, soft_from}
use Rattle.dtx_recipes.specs.Soft.{soft_symbols}
use Rattle.dtx_symbol_laws.specs.SoftFields.{field_groups, fields_in, fields_of, place_behind}
use Rattle.dtx_symbol_laws.proofs.SoftPlaces.{Begins, begins_first, none_from, places_stay, run_begins, run_behind}
use Rattle.dtx_symbol_laws.proofs.SoftPlaces.{run_ends, run_place}
use Rattle.dtx_symbol_laws.proofs.SoftRuns.{soft_entry, soft_length}

-- ---- sums over a run

-- where what is field_sum stands one behind each multiple of 313
pub each_field : (f g : ℕ → ℕ) (first n : ℕ) → ((j : ℕ) → j < n → j % 313 ≡ 1 → f (first + j) ≡ g (j / 313))
    → ((j : ℕ) → j < n → j % 313 ≢ 1 → f (first + j) ≡ 0) → over f first n ≡ over g 0 ((n + 311) / 313)
each_field f g first zero one other = refl
each_field f g first (suc n) one other =
    let next : suc n ≡ n + 1 = omega arith in
    ap (over f first) next ∙ over_more f first n
    ∙ ap (λ k. k + f (first + n)) (each_field f g first n (λ j l e. one j (omega arith) e)
    (λ j l e. other j (omega arith) e)) ∙ by_place (cases_eq (n % 313) 1)
  where
    by_place : (n % 313 ≡ 1) ⊎ (n % 313 ≢ 1)
        → over g 0 ((n + 311) / 313) + f (first + n) ≡ over g 0 ((suc n + 311) / 313)
    by_place (inl e) =
        let more : (suc n + 311) / 313 ≡ (n + 311) / 313 + 1 = omega (arith, e) in
        let place : n / 313 ≡ 0 + (n + 311) / 313 = omega (arith, e) in
        ap (λ k. over g 0 ((n + 311) / 313) + k) (one n (omega arith) e ∙ ap g place)
        ∙ sym (ap (over g 0) more ∙ over_more g 0 ((n + 311) / 313))
    by_place (inr e) = grind (arith, over)

-- ---- the groups of a field

-- the run that a list of segments has at an interval
pub record IsField (s : List (List ℤ)) (p : ℕ × ℕ) (f : ℕ) : Type 0 where
  pub within : p.0 + p.1 ≤ length s
  pub some : 313 * f + 1 < p.1
  pub ends : (p.0 + p.1 ≡ length s) ⊎ (p.1 % 313 ≡ 0)

pub field_of : (s : List (List ℤ)) (p : ℕ × ℕ) (f : ℕ) → IsRun s p.0 p.1 → f < (p.1 + 311) / 313 → IsField s p f
field_of s p f r l = grind arith

-- how many segments they are
pub count_is : (s : List (List ℤ)) (p : ℕ × ℕ) (f : ℕ) → IsField s p f
    → min 312 (length s - (p.0 + (313 * f + 1))) ≡ min 312 (p.1 - (313 * f + 1))
count_is s p f h = grind arith

length-in : (s : List (List ℤ)) (p : ℕ × ℕ) → p.0 + p.1 ≤ length s → length (segments_in s p) ≡ p.1
length-in s p l = grind (arith, length-take-le, length-drop)

rows_are : (s : List (List ℤ)) (p : ℕ × ℕ) (f : ℕ) → IsField s p f
    → drop (313 * f + 1) (segments_in s p) ≡ take (p.1 - (313 * f + 1)) (drop (p.0 + (313 * f + 1)) s)
rows_are s p f h =
    let some = h.some in
    let n : p.0 + p.1 - p.0 ≡ 313 * f + 1 + (p.1 - (313 * f + 1)) = omega arith in
    ap (λ n. drop (313 * f + 1) (take n (drop p.0 s))) n
    ∙ drop-take (313 * f + 1) (p.1 - (313 * f + 1)) (drop p.0 s)
    ∙ ap (take (p.1 - (313 * f + 1))) (drop-drop (313 * f + 1) p.0 s)

-- those of the run are those of the list
groups_same : (s : List (List ℤ)) (p : ℕ × ℕ) (f : ℕ) → IsField s p f
    → field_groups (segments_in s p) f ≡ in_groups s (p.0 + (313 * f + 1))
unfolding groups_in in_groups
groups_same s p f h =
    let left = p.1 - (313 * f + 1) in
    let rest = drop (p.0 + (313 * f + 1)) s in
    let within = h.within in
    let rows : take 312 (drop (313 * f + 1) (segments_in s p)) ≡ take (min 312 left) rest =
    ap (take 312) (rows_are s p f h) ∙ twice 312 left rest in
    let long : length (take (min 312 left) rest) ≡ min 312 left =
    length-take-le (min 312 left) rest (omega (arith, length-drop (p.0 + (313 * f + 1)) s)) in
    ap (λ (xs : List (List ℤ)). take (4 * (length xs / 4)) xs) rows
    ∙ ap (λ n. take (4 * (n / 4)) (take (min 312 left) rest)) long
    ∙ take-take (4 * (min 312 left / 4)) (min 312 left) rest (omega arith)
    ∙ ap (λ n. take (4 * (n / 4)) rest) (sym (count_is s p f h))
  where
    twice : (m n : ℕ) (xs : List (List ℤ)) → take m (take n xs) ≡ take (min m n) xs
    twice m n xs = grind (arith, cases_lt, take-take, take_all, length-take)

-- ---- what is field_sum

abbrev pub count_at : (List (List ℤ) → ℕ) → List (List ℤ) → ℕ → ℕ
count_at count s i = count_from count s i (place_at s i)

over_counts : (count : List (List ℤ) → ℕ) (h : ℕ → List (List ℤ)) (a n : ℕ)
    → over (λ f. count (h f)) a n ≡ sum_by count (map h (range_with_len a n))
over_counts count h a zero = refl
over_counts count h a (suc n) = sum_by-cons (λ x. x) (count (h a)) (map (λ f. count (h f)) (range_with_len (a + 1) n))
    ∙ ap (λ k. count (h a) + k) (over_counts count h (a + 1) n) ∙ sym (grind (arith, sum_by-cons))

pub run_fields : (count : List (List ℤ) → ℕ) (s : List (List ℤ)) (p : ℕ × ℕ) → IsRun s p.0 p.1 → place_at s p.0 ≡ None
    → over (count_at count s) p.0 p.1 ≡ over (λ f. count (in_groups s (p.0 + (313 * f + 1)))) 0 ((p.1 + 311) / 313)
run_fields count s p r here = grind (arith, each_field, run_place)

run_counts : (count : List (List ℤ) → ℕ) (s : List (List ℤ)) (p : ℕ × ℕ) → IsRun s p.0 p.1
    → place_at s p.0 ≡ None → over (count_at count s) p.0 p.1 ≡ sum_by count (fields_in (segments_in s p))
unfolding fields_in
run_counts count s p r here = run_fields count s p r here
    ∙ over_same (λ f. count (in_groups s (p.0 + (313 * f + 1))))
    (λ f. count (field_groups (segments_in s p) f)) 0 ((p.1 + 311) / 313)
    (λ f a b. ap count (sym (groups_same s p f (field_of s p f r (omega arith)))))
    ∙ over_counts count (field_groups (segments_in s p)) 0 ((p.1 + 311) / 313)
    ∙ ap (λ n. sum_by count (map (field_groups (segments_in s p)) (range_with_len 0 ((n + 311) / 313))))
    (sym (length-in s p r.within))

-- nothing is added where no segment looks like a field sync
none_there : (f : ℕ → ℕ) (s : List (List ℤ)) (a b : ℕ) → ((i : ℕ) → i < length s → place_at s i ≡ None → f i ≡ 0)
    → NoneLooks s a b → b ≤ length s → (a ≤ b → place_at s a ≡ None) → over f a (b - a) ≡ 0
none_there f s a b none h l here = over_none f a (b - a) (λ i k m.
    let there : i ≡ a + (i - a) = omega arith in
    none i (omega arith) (rw (there, none_from s a b (i - a) h l (here (omega arith)) (omega arith))))

-- What is added of segments that are data alone is added run by run.
runs_sum : (f : ℕ → ℕ) (in_run : ℕ × ℕ → ℕ) (s : List (List ℤ)) (from : ℕ) (ps : List (ℕ × ℕ)) → AreRuns s from ps
    → Begins s from → ((i : ℕ) → i < length s → place_at s i ≡ None → f i ≡ 0)
    → ((p : ℕ × ℕ) → IsRun s p.0 p.1 → place_at s p.0 ≡ None → over f p.0 p.1 ≡ in_run p)
    → over f from (length s - from) ≡ sum_by in_run ps
runs_sum f in_run s from [] h here none each = none_there f s from (length s) none h (omega arith) here
runs_sum f in_run s from (p ∷ ps) h here none each =
    let first = run_begins s from p here h.0 h.1 h.2 in
    let low = h.0 in
    let within = h.2.within in
    let parts : length s - from ≡ (p.0 - from) + (p.1 + (length s - (p.0 + p.1))) = omega arith in
    let start : from + (p.0 - from) ≡ p.0 = omega arith in
    let before : over f from (p.0 - from) ≡ 0 =
    none_there f s from p.0 none h.1 (omega arith) (λ l. here (omega arith)) in
    ap (over f from) parts ∙ over_parts f from (p.0 - from) (p.1 + (length s - (p.0 + p.1)))
    ∙ ap₂ (λ (n m : ℕ). n + m) before
    (ap (λ a. over f a (p.1 + (length s - (p.0 + p.1)))) start ∙ over_parts f p.0 p.1 (length s - (p.0 + p.1))
    ∙ ap₂ (λ (n m : ℕ). n + m) (each p h.2 first) (behind (cases_lt (p.0 + p.1) (length s)) (run_ends s p h.2 first)
    ∙ runs_sum f in_run s (p.0 + p.1 + 1) ps h.3 (run_behind s p h.2 first) none each))
    ∙ none_first _ ∙ sym (sum_by-cons in_run p ps)
  where
    behind : (p.0 + p.1 < length s) ⊎ (length s ≤ p.0 + p.1) → (p.0 + p.1 < length s → place_at s (p.0 + p.1) ≡ None)
        → over f (p.0 + p.1) (length s - (p.0 + p.1)) ≡ over f (p.0 + p.1 + 1) (length s - (p.0 + p.1 + 1))
    behind (inl l) ends =
        let one : length s - (p.0 + p.1) ≡ 1 + (length s - (p.0 + p.1 + 1)) = omega arith in
        ap (over f (p.0 + p.1)) one ∙ over_one f (p.0 + p.1) (length s - (p.0 + p.1 + 1))
        ∙ ap (λ n. n + over f (p.0 + p.1 + 1) (length s - (p.0 + p.1 + 1))) (none (p.0 + p.1) l (ends l)) ∙ none_first _
    behind (inr l) ends = grind (arith, over)

-- of all segments
pub all_sum : (f : ℕ → ℕ) (in_run : ℕ × ℕ → ℕ) (s : List (List ℤ))
    → ((i : ℕ) → i < length s → place_at s i ≡ None → f i ≡ 0)
    → ((p : ℕ × ℕ) → IsRun s p.0 p.1 → place_at s p.0 ≡ None → over f p.0 p.1 ≡ in_run p)
    → over f 0 (length s) ≡ sum_by in_run (are_runs s).0
all_sum f in_run s none each =
    let whole : length s ≡ length s - 0 = omega arith in
    ap (over f 0) whole ∙ runs_sum f in_run s 0 (are_runs s).0 (are_runs s).1 (begins_first s) none each

flat_counts : {X : Type 0} (count : List (List ℤ) → ℕ) (fields : X → List (List (List ℤ))) (ps : List X)
    → sum_by (λ p. sum_by count (fields p)) ps ≡ sum_by count (flat_map fields ps)
flat_counts count fields [] = refl
flat_counts count fields (p ∷ ps) = sum_by-cons (λ p. sum_by count (fields p)) p ps
    ∙ ap (λ n. sum_by count (fields p) + n) (flat_counts count fields ps) ∙ sym (grind (arith, sum_by-append))

-- what is field_sum of all segments is that of the fields
pub fields_count : (count : List (List ℤ) → ℕ) (s : List (List ℤ))
    → field_sum count s (length s) ≡ sum_by count (fields_of s)
unfolding field_sum fields_of
fields_count count s = all_sum (count_at count s) (λ p. sum_by count (fields_in (segments_in s p))) s
    (λ i l none. grind arith) (run_counts count s) ∙ flat_counts count (λ p. fields_in (segments_in s p)) (are_runs s).0
    ∙ ap (sum_by count) (sym (ap (flat_map fields_in) (are_runs s).2
    ∙ flat_map-map fields_in (segments_in s) (are_runs s).0))

-- ---- what they become

pub groups_become : (s : List (List ℤ)) (p : ℕ × ℕ) (f : ℕ) → IsRun s p.0 p.1 → place_at s p.0 ≡ None → IsField s p f
    → in_groups (soft_symbols s) (p.0 + (313 * f + 1)) ≡ softened 1 (in_groups s (p.0 + (313 * f + 1)))
unfolding in_groups softened soft_at
groups_become s p f r here h =
    let first = p.0 + (313 * f + 1) in
    let m = 4 * (min 312 (length s - first) / 4) in
    let g = take m (drop first s) in
    let long : length g ≡ m = length-take-le m (drop first s) (omega (arith, length-drop first s)) in
    let same : 4 * (min 312 (length (soft_symbols s) - first) / 4) ≡ m =
    ap (λ n. 4 * (min 312 (n - first) / 4)) (soft_length s) in
    ap (λ n. take n (drop first (soft_symbols s))) same
    ∙ fill_by_all (softened_segment 1 g) (take m (drop first (soft_symbols s))) (length g) []
    (grind (arith, length-take-le, length-drop, soft_length)) (λ t l. entry t (omega (arith, l, long)))
  where
    entry : (t : ℕ) → t < 4 * (min 312 (length s - (p.0 + (313 * f + 1))) / 4)
        → get_or (take (4 * (min 312 (length s - (p.0 + (313 * f + 1))) / 4))
        (drop (p.0 + (313 * f + 1)) (soft_symbols s))) t []
        ≡ softened_segment 1 (take (4 * (min 312 (length s - (p.0 + (313 * f + 1))) / 4))
        (drop (p.0 + (313 * f + 1)) s)) t
    entry t l =
        let first = p.0 + (313 * f + 1) in
        let m = 4 * (min 312 (length s - first) / 4) in
        let g = take m (drop first s) in
        let some = h.some in
        let count = count_is s p f h in
        let long : length g ≡ m = length-take-le m (drop first s) (omega (arith, length-drop first s)) in
        let at : first + t ≡ p.0 + (313 * f + 1 + t) = omega arith in
        let turn : (313 * f + 1 + t) % 313 ≡ suc t = omega (arith, l) in
        let back : first + t - t ≡ first = omega arith in
        get_or-take m (drop first (soft_symbols s)) t [] l ∙ get_or-drop first (soft_symbols s) t []
        ∙ soft_entry s (first + t) (omega (arith, l)) ∙ ap (soft_from s (first + t))
        (ap (λ i. place_at s i) at ∙ run_place s p (313 * f + 1 + t) r here (omega (arith, l, count))
        ∙ ap place_behind turn) ∙ ap (λ n. get_or (softened 1 (in_groups s n)) t (get_or s (first + t) [])) back
        ∙ get_or-map-range_with_len (softened_segment 1 g) 0 (length g) t t (get_or s (first + t) [])
        (omega (arith, l, long)) (omega arith)

run_becomes : (s : List (List ℤ)) (p : ℕ × ℕ) → IsRun s p.0 p.1 → place_at s p.0 ≡ None
    → fields_in (segments_in (soft_symbols s) p) ≡ map (softened 1) (fields_in (segments_in s p))
unfolding fields_in
run_becomes s p r here =
    let within = r.within in
    let long = length-in s p within in
    let after = length-in (soft_symbols s) p (omega (arith, within, soft_length s)) in
    ap (λ n. map (field_groups (segments_in (soft_symbols s) p)) (range_with_len 0 ((n + 311) / 313))) after
    ∙ map-range_same (field_groups (segments_in (soft_symbols s) p))
    (λ f. softened 1 (field_groups (segments_in s p) f)) 0 ((p.1 + 311) / 313)
    (λ f a b. field f (field_of s p f r (omega arith)))
    ∙ sym (map-map (softened 1) (field_groups (segments_in s p)) (range_with_len 0 ((p.1 + 311) / 313)))
    ∙ ap (λ n. map (softened 1) (map (field_groups (segments_in s p)) (range_with_len 0 ((n + 311) / 313)))) (sym long)
  where
    of_output : (f : ℕ) → IsField s p f → IsField (soft_symbols s) p f
    of_output f h = grind (arith, soft_length)

    field : (f : ℕ) → IsField s p f
        → field_groups (segments_in (soft_symbols s) p) f ≡ softened 1 (field_groups (segments_in s p) f)
    field f h = groups_same (soft_symbols s) p f (of_output f h) ∙ groups_become s p f r here h
        ∙ ap (softened 1) (sym (groups_same s p f h))

runs_become : (s : List (List ℤ)) (from : ℕ) (ps : List (ℕ × ℕ)) → AreRuns s from ps → Begins s from
    → flat_map (λ p. fields_in (segments_in (soft_symbols s) p)) ps
    ≡ map (softened 1) (flat_map (λ p. fields_in (segments_in s p)) ps)
runs_become s from [] h here = refl
runs_become s from (p ∷ ps) h here =
    let first = run_begins s from p here h.0 h.1 h.2 in
    ap₂ (λ (xs ys : List (List (List ℤ))). xs ++ ys) (run_becomes s p h.2 first)
    (runs_become s (p.0 + p.1 + 1) ps h.3 (run_behind s p h.2 first)) ∙ sym (grind (arith, map-append))

pub fields_become : (s : List (List ℤ)) → fields_of (soft_symbols s) ≡ map (softened 1) (fields_of s)
unfolding fields_of
fields_become s =
    let all = are_runs s in
    let after = are_runs (soft_symbols s) in
    let same : after.0 ≡ all.0 = only_runs (soft_symbols s) 0 after.0 all.0 after.1 (places_stay s all.0 all.1) in
    ap (flat_map fields_in) (after.2 ∙ ap (map (segments_in (soft_symbols s))) same)
    ∙ flat_map-map fields_in (segments_in (soft_symbols s)) all.0
    ∙ runs_become s 0 all.0 all.1 (begins_first s)
    ∙ ap (map (softened 1)) (sym (ap (flat_map fields_in) all.2 ∙ flat_map-map fields_in (segments_in s) all.0))

-- ---- what stays

pub others_stay : (s : List (List ℤ)) (i : ℕ) → i < length s
    → IfSome (place_at s i) (λ place. length (in_groups s (i - place)) ≤ place)
    → get_or (soft_symbols s) i [] ≡ get_or s i []
unfolding soft_at softened
others_stay s i l h = grind (arith, soft_entry, get_or_past, length-map-range_with_len)

-- where no segment looks like a field sync all stay, and nothing is field_sum
pub none_stay : (s : List (List ℤ)) → NoneLooks s 0 (length s) → soft_symbols s ≡ s
unfolding soft_symbols soft_at
none_stay s h = sym (fill_by_all (soft_at s) s (length s) [] refl (λ i l.
    let there : i ≡ 0 + i = omega arith in
    sym (grind (arith, none_from, begins_first))))

pub nothing_counted : (count : List (List ℤ) → ℕ) (s : List (List ℤ)) → NoneLooks s 0 (length s)
    → field_sum count s (length s) ≡ 0
unfolding field_sum
nothing_counted count s h =
    let whole : length s ≡ length s - 0 = omega arith in
    ap (over (count_at count s) 0) whole
    ∙ none_there (count_at count s) s 0 (length s) (λ i l none. grind arith) h (omega arith) (begins_first s)
