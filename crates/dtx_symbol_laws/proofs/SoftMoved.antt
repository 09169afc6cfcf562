-- What the least paths of all fields cost is how far all symbols of a file are moved.
use Rattle.std.proofs.Common.{◌≡◌, ℕ, ℤ, zero, suc, ◌+◌, ◌-◌, ◌*◌, ◌/◌, ◌%◌, ◌<◌, ◌≤◌, ◌⊎◌, inl, inr, Some, None, List}
use Rattle.std.proofs.Common.{[], length, take, drop, get_or, min, refl, sym, ap, ap₂, ◌∙◌, arith}
use Rattle.std.proofs.lemmas.Bool.{cases_lt}
use Rattle.std.proofs.lemmas.List.{get_or-drop, get_or-take, length-drop, length-map, length-take-le}
use Rattle.std.proofs.lemmas.List.FromFn.{get_or-map-range_with_len, length-map-range_with_len}
use Rattle.dtx_receiver.specs.Intervals.{IsRun}
use Rattle.dtx_soft.specs.Coders.{segments_distance}
use Rattle.dtx_soft.proofs.MovedLemmas.{distance_is, distance_same}
use Rattle.dtx_soft.specs.Paths.{distance}
use Rattle.dtx_soft.specs.Softened.{softened, softened_cost, softened_segment}
use Rattle.dtx_soft.proofs.SoftenedLemmas.{cost_is, softened_found}
use Rattle.dtx_soft.proofs.SumsLemmas.{none_first, over, over_more, over_moved, over_none, over_one, over_parts}
use Rattle.dtx_recipes.specs.Soft.{count_from, field_sum, in_groups, place_at, soft_symbols}
use Rattle.dtx_recipes.specs.SymbolFile.{file_segments, symbol_of_byte, whole_segments}
use Rattle.dtx_jobs.proofs.SymbolFileLemmas.{length-segments_of}
use Rattle.dtx_symbol_laws.specs.SoftFields.{place_behind}
use Rattle.dtx_symbol_laws.proofs.SoftFields.{IsField, all_sum, count_at, count_is, field_of, groups_become}
use Rattle.dtx_symbol_laws.proofs.SoftFields.{others_stay, run_fields}
use Rattle.dtx_symbol_laws.proofs.SoftPlaces.{run_place}
use Rattle.dtx_symbol_laws.proofs.SoftRuns.{soft_length}

-- ---- a run field by field

-- up to field f, of which a segment is there
fields_before : (e g : ℕ → ℕ) (first n f : ℕ) → ((j : ℕ) → j < n → j % 313 ≡ 0 → e (first + j) ≡ 0)
    → ((f : ℕ) → 313 * f + 1 < n → over e (first + (313 * f + 1)) (min 312 (n - (313 * f + 1))) ≡ g f)
    → f ≤ (n + 311) / 313 → over e first (min n (313 * f)) ≡ over g 0 f
fields_before e g first n zero none each l = grind (arith, over)
fields_before e g first n (suc f) none each l =
    let some : 313 * f + 1 < n = omega (arith, l) in
    let before : min n (313 * f) ≡ 313 * f = omega arith in
    let rest = min 312 (n - (313 * f + 1)) in
    let all : min n (313 * suc f) ≡ 313 * f + (1 + rest) = omega arith in
    let next : suc f ≡ f + 1 = omega arith in
    let behind : first + 313 * f + 1 ≡ first + (313 * f + 1) = omega arith in
    ap (over e first) all ∙ over_parts e first (313 * f) (1 + rest) ∙ ap₂ (λ (x y : ℕ). x + y)
    (ap (over e first) (sym before) ∙ fields_before e g first n f none each (omega (arith, l)))
    (over_one e (first + 313 * f) rest ∙ ap₂ (λ (x y : ℕ). x + y) (none (313 * f) (omega arith) (omega arith))
    (ap (λ a. over e a rest) behind ∙ each f some) ∙ none_first (g f) ∙ ap g (sym (none_first f)))
    ∙ sym (ap (over g 0) next ∙ over_more g 0 f)

each_block : (e g : ℕ → ℕ) (first n : ℕ) → ((j : ℕ) → j < n → j % 313 ≡ 0 → e (first + j) ≡ 0)
    → ((f : ℕ) → 313 * f + 1 < n → over e (first + (313 * f + 1)) (min 312 (n - (313 * f + 1))) ≡ g f)
    → over e first n ≡ over g 0 ((n + 311) / 313)
each_block e g first n none each = by_end (cases_lt (313 * ((n + 311) / 313)) n)
    ∙ fields_before e g first n ((n + 311) / 313) none each (omega arith)
  where
    by_end : (313 * ((n + 311) / 313) < n) ⊎ (n ≤ 313 * ((n + 311) / 313))
        → over e first n ≡ over e first (min n (313 * ((n + 311) / 313)))
    by_end (inl l) =
        let m = 313 * ((n + 311) / 313) in
        let one : n ≡ m + 1 = omega arith in
        let least : min n m ≡ m = omega arith in
        let last = none m (omega arith) (omega arith) in
        let sums : over e first m + e (first + m) ≡ over e first m = omega (arith, last) in
        ap (over e first) one ∙ over_more e first m ∙ sums ∙ sym (ap (over e first) least)
    by_end (inr l) = grind (arith, over)

-- ---- a field

-- how far the symbols of segment i are moved
abbrev off_at : List (List ℤ) → ℕ → ℕ
off_at s i = distance (get_or s i []) (get_or (soft_symbols s) i [])

stays_off : (s : List (List ℤ)) (i : ℕ) → get_or (soft_symbols s) i [] ≡ get_or s i [] → off_at s i ≡ 0
stays_off s i e = ap (distance (get_or s i [])) e ∙ distance_same (get_or s i [])

-- each segment has 832 symbols
abbrev pub HasRows : List (List ℤ) → Type 0
HasRows s = (i : ℕ) → i < length s → length (get_or s i []) ≡ 832

pub softened_row : (g : List (List ℤ)) (i : ℕ) → length (softened_segment 1 g i) ≡ 832
unfolding softened_segment
softened_row g i = grind (arith, length-map-range_with_len)

softened_rows : (g : List (List ℤ)) → HasRows (softened 1 g)
unfolding softened
softened_rows g i l = grind (arith, length-map-range_with_len, get_or-map-range_with_len, softened_row)

groups_long : (s : List (List ℤ)) (a : ℕ) → length (in_groups s a) ≡ 4 * (min 312 (length s - a) / 4)
unfolding in_groups
groups_long s a = length-take-le (4 * (min 312 (length s - a) / 4)) (drop a s) (omega (arith, length-drop a s))

groups_at : (s : List (List ℤ)) (a t : ℕ) → t < length (in_groups s a)
    → get_or (in_groups s a) t [] ≡ get_or s (a + t) []
unfolding in_groups
groups_at s a t l = grind (arith, get_or-take, groups_long, get_or-drop)

-- the segments of whole groups
groups_off : (s : List (List ℤ)) (a : ℕ) → HasRows s → in_groups (soft_symbols s) a ≡ softened 1 (in_groups s a)
    → over (off_at s) a (length (in_groups s a)) ≡ softened_cost 1 (in_groups s a)
unfolding segments_distance
groups_off s a rows become =
    let g = in_groups s a in
    over_moved (off_at s) (λ t. distance (get_or g t []) (get_or (softened 1 g) t [])) a 0 (length g) at
    ∙ sym (distance_is 1 g (softened 1 g) (softened_found 1 g) row (softened_rows g))
    ∙ cost_is 1 g (softened 1 g) (softened_found 1 g)
  where
    at : (t : ℕ) → t < length (in_groups s a) → off_at s (a + t)
        ≡ distance (get_or (in_groups s a) (0 + t) []) (get_or (softened 1 (in_groups s a)) (0 + t) [])
    at t l = grind (arith, groups_long, soft_length, groups_at)

    row : HasRows (in_groups s a)
    row i l = ap length (groups_at s a i l) ∙ rows (a + i) (omega (arith, l, groups_long s a))

-- the data segments of a field
field_off : (s : List (List ℤ)) (p : ℕ × ℕ) (f : ℕ) → HasRows s → IsRun s p.0 p.1 → place_at s p.0 ≡ None
    → IsField s p f → over (off_at s) (p.0 + (313 * f + 1)) (min 312 (p.1 - (313 * f + 1)))
    ≡ softened_cost 1 (in_groups s (p.0 + (313 * f + 1)))
field_off s p f rows r here h =
    let a = p.0 + (313 * f + 1) in
    let n = min 312 (p.1 - (313 * f + 1)) in
    let m = length (in_groups s a) in
    let long = groups_long s a in
    let count = count_is s p f h in
    let within = h.within in
    let some = h.some in
    let all : n ≡ m + (n - m) = omega (arith, long, count) in
    let none : over (off_at s) (a + m) (n - m) ≡ 0 =
    over_none (off_at s) (a + m) (n - m) (λ i b c. behind i (i - a) (omega arith) (omega arith) (omega arith)
    (omega arith)) in
    let sums : over (off_at s) a m + over (off_at s) (a + m) (n - m) ≡ over (off_at s) a m = omega (arith, none) in
    ap (over (off_at s) a) all ∙ over_parts (off_at s) a m (n - m) ∙ sums
    ∙ groups_off s a rows (groups_become s p f r here h)
  where
    behind : (i t : ℕ) → i ≡ p.0 + (313 * f + 1) + t → length (in_groups s (p.0 + (313 * f + 1))) ≤ t → t < 312
        → t < p.1 - (313 * f + 1) → off_at s i ≡ 0
    behind i t e l k o =
        let within = h.within in
        let same : i ≡ p.0 + (313 * f + 1 + t) = omega (arith, e) in
        let turn : (313 * f + 1 + t) % 313 ≡ suc t = omega (arith, k) in
        let back : i - t ≡ p.0 + (313 * f + 1) = omega (arith, e) in
        let place : place_at s i ≡ Some t =
        ap (λ i. place_at s i) same ∙ run_place s p (313 * f + 1 + t) r here (omega (arith, o))
        ∙ ap place_behind turn in
        stays_off s i (others_stay s i (omega (arith, e, o, within)) (grind arith))

-- a segment that is no data
copied_off : (s : List (List ℤ)) (i : ℕ) → i < length s → place_at s i ≡ None → off_at s i ≡ 0
copied_off s i l none = grind (arith, stays_off, others_stay)

-- a run
run_off : (s : List (List ℤ)) (p : ℕ × ℕ) → HasRows s → IsRun s p.0 p.1 → place_at s p.0 ≡ None
    → over (off_at s) p.0 p.1 ≡ over (count_at (softened_cost 1) s) p.0 p.1
run_off s p rows r here = each_block (off_at s) (λ f. softened_cost 1 (in_groups s (p.0 + (313 * f + 1)))) p.0 p.1
    (λ j l e. copied_off s (p.0 + j) (omega (arith, l, r.within)) (grind (arith, run_place)))
    (λ f l. field_off s p f rows r here (field_of s p f r (omega (arith, l))))
    ∙ sym (run_fields (softened_cost 1) s p r here)

-- ---- all segments

pub moved_is : (s : List (List ℤ)) → HasRows s
    → field_sum (softened_cost 1) s (length s) ≡ segments_distance s (soft_symbols s)
unfolding field_sum segments_distance
moved_is s rows = all_sum (count_at (softened_cost 1) s) (λ p. over (count_at (softened_cost 1) s) p.0 p.1) s
    (λ i l none. ap (count_from (softened_cost 1) s i) none) (λ p r here. refl)
    ∙ sym (all_sum (off_at s) (λ p. over (count_at (softened_cost 1) s) p.0 p.1) s (copied_off s)
    (λ p r here. run_off s p rows r here))

-- the segments of a file have 832 symbols each
pub file_rows : (file : List ℕ) → HasRows (file_segments file)
file_rows file i l =
    let count = length-segments_of file in
    let long : length (drop (832 * i) file) ≡ length file - 832 * i = length-drop (832 * i) file in
    ap length (grind (arith, get_or-map-range_with_len)) ∙ length-map (take 832 (drop (832 * i) file)) symbol_of_byte
    ∙ length-take-le 832 (drop (832 * i) file) (omega (arith, l, count, long))

pub file_moved : (file : List ℕ) → field_sum (softened_cost 1) (file_segments file) (whole_segments file)
    ≡ segments_distance (file_segments file) (soft_symbols (file_segments file))
file_moved file = ap (field_sum (softened_cost 1) (file_segments file)) (sym (length-segments_of file))
    ∙ moved_is (file_segments file) (file_rows file)
