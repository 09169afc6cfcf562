-- How many segments fields give, and that each is whole. Settled fields give 313 or none, and a segment has 832
-- symbols.
use Rattle.std.proofs.Common.{◌≡◌, ℕ, ℤ, zero, suc, ◌+◌, ◌-◌, ◌*◌, ◌%◌, ◌<◌, ◌≤◌, ◌⊎◌, Bool, true, false, cond, List}
use Rattle.std.proofs.Common.{[], ◌∷◌, ◌++◌, length, map, take, drop, filter, get_or, refl, ap, ◌∙◌, arith}
use Rattle.std.specs.List.{flat_map}
use Rattle.std.proofs.lemmas.Bool.{cases_lt, cond-false, cond-true, leb-false, leb-true}
use Rattle.std.proofs.lemmas.List.{get_or-append_right, get_or-drop, get_or-map, get_or_append_left, length-append}
use Rattle.std.proofs.lemmas.List.{length-drop, length-map, length-take-le}
use Rattle.std.proofs.lemmas.List.FromFn.{get_or-map-range_with_len, length-map-range_with_len}
use Rattle.dtx_frame.specs.Segments.{field_sync}
use Rattle.dtx_frame.proofs.SymbolsLemmas as symbols
use Rattle.dtx_soft.specs.Softened.{softened, softened_segment}
use Rattle.dtx_soft.proofs.SoftenedLemmas.{softened_found}
use Rattle.dtx_acquire.specs.Agreement.{is_second}
use Rattle.dtx_acquire.specs.Acquired.{Sync, acquired, acquired_so_far, all_syncs, behind_groups, field_at}
use Rattle.dtx_acquire.specs.Acquired.{fields_where, given_at, in_groups, is_met, restored, restored_data}
use Rattle.dtx_acquire.specs.Acquired.{restored_field, restored_of, restored_sync, segments_from}

-- ---- how many

pub length-segments_from : (symbols : List ℤ) (place count : ℕ) → length (segments_from symbols place count) ≡ count
unfolding segments_from
length-segments_from symbols place count = grind (arith, length-map-range_with_len)

pub length-field : (scale : ℕ) (segments : List (List ℤ)) → length (restored_field scale segments) ≡ length segments
unfolding restored_field in_groups behind_groups
length-field scale segments = grind (arith, length-map, length-append, length-drop, softened_found, length-take-le)

-- As many segments are restored as were received.
pub length-restored : (scale : ℕ) (segments : List (List ℤ)) → length (restored scale segments) ≡ length segments
length-restored scale [] = refl
length-restored scale (sync ∷ segments) = ap suc (length-field scale segments)

pub length-field_at : (v : List ℤ) (s : Sync) → length (field_at v s).segments ≡ given_at v s.place
unfolding field_at
length-field_at v s = length-segments_from v s.place (given_at v s.place)

-- ---- how long

-- segments of 832 symbols
abbrev pub AreLong : List (List ℤ) → Type 0
AreLong rows = (i : ℕ) → i < length rows → length (get_or rows i []) ≡ 832

pub long_append : (xs ys : List (List ℤ)) → AreLong xs → AreLong ys → AreLong (xs ++ ys)
long_append xs ys h k i l = grind (arith, cases_lt, get_or_append_left, get_or-append_right, length-append)

pub long_softened : (scale : ℕ) (rows : List (List ℤ)) → AreLong (softened scale rows)
unfolding softened softened_segment
long_softened scale rows i l = grind (arith, get_or-map-range_with_len, length-map-range_with_len)

-- what is decided of a field: the whole groups are softened before
pub long_decided : (scale : ℕ) (rows : List (List ℤ)) → AreLong rows
    → AreLong (softened scale (in_groups rows) ++ behind_groups rows)
unfolding behind_groups
long_decided scale rows h = grind (arith, long_append, long_softened, get_or-drop, length-drop)

long_restored : (scale : ℕ) (rows : List (List ℤ)) → AreLong rows → AreLong (restored scale rows)
unfolding restored_sync field_sync restored_field restored_data
long_restored scale [] h i l = absurd (omega arith)
long_restored scale (row ∷ rows) h zero l = simp (length-append, length-map, length-drop)
    (omega (arith, h 0 (omega arith), symbols.length_front (is_second row)))
long_restored scale (row ∷ rows) h (suc i) l =
    let all : List (List ℤ) = softened scale (in_groups rows) ++ behind_groups rows in
    let m : i < length all = omega (arith, l, length-map all (restored_data scale)) in
    let long = long_decided scale rows (λ j m. h (suc j) (omega arith)) i m in
    ap length (get_or-map (restored_data scale) all i [] [] m)
    ∙ simp (length-append, length-map, length-drop) (omega (arith, long, symbols.length_sync))

-- ---- the segments of a field

-- how many the fields give that are settled
abbrev pub IsAll : ℕ → Type 0
IsAll n = (n ≡ 313) ⊎ (n ≡ 0)

pub given_met : (v : List ℤ) (p : ℕ) → is_met v p ≡ true → IsAll (given_at v p)
unfolding given_at
given_met v p m = grind (arith, cond-true)

-- each segment that is given is there, and they are no more than a field has
pub record HasRoom (v : List ℤ) (p : ℕ) : Type 0 where
  pub within : (i : ℕ) → i < given_at v p → p + 832 * i + 832 ≤ length v
  pub few : given_at v p ≤ 313

pub given_room : (v : List ℤ) (p : ℕ) → HasRoom v p
unfolding given_at is_met
given_room v p = grind (arith, leb-true, given_met, leb-false, cond-false)

pub long_at : (v : List ℤ) (s : Sync) → AreLong (field_at v s).segments
unfolding field_at segments_from
long_at v s i l =
    let n : ℕ = given_at v s.place in
    let m : i < n = omega (arith, l, length-map-range_with_len (λ i. take 832 (drop (s.place + 832 * i) v)) 0 n) in
    let room = (given_room v s.place).within i m in
    ap length (get_or-map-range_with_len (λ i. take 832 (drop (s.place + 832 * i) v)) 0 n i i [] m (omega arith))
    ∙ length-take-le 832 (drop (s.place + 832 * i) v) (omega (arith, room, length-drop (s.place + 832 * i) v))

-- ---- all fields

long_fields : (scale : ℕ) (v : List ℤ) (syncs : List Sync) → AreLong (restored_of scale (map (field_at v) syncs))
unfolding restored_of
long_fields scale v [] = λ i l. absurd (omega arith)
long_fields scale v (s ∷ syncs) = long_append (restored scale (field_at v s).segments)
    (flat_map (λ field. restored scale field.segments) (map (field_at v) syncs))
    (long_restored scale (field_at v s).segments (long_at v s)) (long_fields scale v syncs)

pub long_acquired : (scale : ℕ) (symbols : List ℤ) → AreLong (acquired scale symbols)
unfolding acquired fields_where
long_acquired scale symbols = long_fields scale symbols (filter (λ s. true) (all_syncs true symbols))

whole_fields : (scale : ℕ) (v : List ℤ) (syncs : List Sync)
    → length (restored_of scale (map (field_at v) (filter (λ s. is_met v s.place) syncs))) % 313 ≡ 0
unfolding restored_of
whole_fields scale v [] = refl
whole_fields scale v (s ∷ syncs) = by_met (is_met v s.place) refl (whole_fields scale v syncs)
  where
    rest : List Sync
    rest = filter (λ s. is_met v s.place) syncs

    count : List Sync → ℕ
    count syncs = length (flat_map (λ field. restored scale field.segments) (map (field_at v) syncs))

    by_all : IsAll (given_at v s.place) → count rest % 313 ≡ 0 → count (s ∷ rest) % 313 ≡ 0
    by_all all h = grind (arith, length-append, length-restored, length-field_at)

    by_met : (m : Bool) → is_met v s.place ≡ m → count rest % 313 ≡ 0
        → count (cond (is_met v s.place) (s ∷ rest) rest) % 313 ≡ 0
    by_met true e h = rw e (by_all (given_met v s.place e) h)
    by_met false e h = rw e h

-- settled fields are whole, or give nothing
pub whole_so_far : (scale : ℕ) (symbols : List ℤ) → length (acquired_so_far scale symbols) % 313 ≡ 0
unfolding acquired_so_far fields_where
whole_so_far scale symbols = whole_fields scale symbols (all_syncs true symbols)
