-- Where the symbols and bytes of coders stand in a run, and the levels and bytes of a run of segments of 832 symbols,
-- one by one. A field has 312 data segments, so 21528 steps.
use Rattle.std.proofs.Common.{◌≡◌, ℕ, ◌+◌, ◌-◌, ◌*◌, ◌/◌, ◌%◌, ◌<◌, ◌≤◌, refl, arith, ℤ, pos, zero, suc, List, length}
use Rattle.std.proofs.Common.{drop, get_or, ap, ◌∙◌}
use Rattle.std.specs.List.{range_with_len, flat_map}
use Rattle.std.proofs.lemmas.List.{get_or-append_right, get_or-drop, get_or-map, get_or_append_left, length-append}
use Rattle.std.proofs.lemmas.List.{length-drop}
use Rattle.std.proofs.lemmas.List.FromFn.{get_or-map-range_with_len, length-map-range_with_len}
use Rattle.dtx_slice.specs.Slicing.{sliced, sliced_data}
use Rattle.dtx_slice.specs.Unrolled.{symbol_place, byte_back, bytes_back, level_groups}
use Rattle.dtx_receiver.specs.Bytes.{bytes_in, data_at, data_count, first_bits, groups_of, levels_from, levels_in}
use Rattle.dtx_receiver.proofs.SegmentsLemmas.{segment_long}
use Rattle.dtx_rounds.specs.RunField.{AreSegments}

-- ---- symbols

pub place_in : (t e : ℕ) → symbol_place 0 t e % 828 < 828
place_in t e = omega arith

pub field_of_segment : (t : ℕ) → t / 69 / 312 ≡ t / 21528
field_of_segment t = omega arith

-- ---- bytes

-- byte 0 of a word alone may be one whose first step is the first of a field
pub later_step : (k j i : ℕ) → 0 < j → j < 207 → i < 4
    → 0 < (4 * ((207 * k + j + 52 * 4 * ((207 * k + j) % 52)) / 12) + i) % 21528
later_step k j i a b c = grind arith

-- ---- rows of 828 numbers

row_at : (f : ℕ → List ℕ) (a n i k : ℕ) → ((j : ℕ) → a ≤ j → j < a + n → length (f j) ≡ 828) → i < n → k < 828
    → get_or (flat_map f (range_with_len a n)) (828 * i + k) 0 ≡ get_or (f (a + i)) k 0
row_at f a zero i k h l m = absurd (omega arith)
row_at f a (suc n) zero k h l m = grind (arith, get_or_append_left)
row_at f a (suc n) (suc i) k h l m =
    let first : length (f a) ≡ 828 = h a (omega arith) (omega arith) in
    let there : 828 * suc i + k - 828 ≡ 828 * i + k = omega arith in
    let same : a + 1 + i ≡ a + suc i = omega arith in
    get_or-append_right (f a) (flat_map f (range_with_len (a + 1) n)) 828 (828 * suc i + k) 0 first (omega arith)
    ∙ ap (λ x. get_or (flat_map f (range_with_len (a + 1) n)) x 0) there
    ∙ row_at f (a + 1) n i k (λ j b c. h j (omega arith) (omega arith)) (omega arith) m
    ∙ ap (λ x. get_or (f x) k 0) same

rows_long : (f : ℕ → List ℕ) (a n : ℕ) → ((j : ℕ) → a ≤ j → j < a + n → length (f j) ≡ 828)
    → length (flat_map f (range_with_len a n)) ≡ 828 * n
rows_long f a zero h = refl
rows_long f a (suc n) h =
    let rest = rows_long f (a + 1) n (λ j b c. h j (omega arith) (omega arith)) in
    let both = length-append (f a) (flat_map f (range_with_len (a + 1) n)) in
    omega (arith, rest, both)

-- ---- levels

-- a data segment in a whole group
pub data_there : (run : List (List ℤ)) (d : ℕ) → d < 4 * groups_of run → d + d / 312 + 1 < length run
unfolding groups_of data_count
data_there run d l = grind arith

pub data_long : (run : List (List ℤ)) (d : ℕ) → AreSegments run → d < 4 * groups_of run → length (data_at run d) ≡ 832
unfolding data_at
data_long run d h l = h (d + d / 312 + 1) (data_there run d l)

rows_are : (run : List (List ℤ)) → AreSegments run → (j : ℕ) → 0 ≤ j → j < 0 + 4 * groups_of run
    → length (sliced_data (data_at run j)) ≡ 828
rows_are run h j a l = segment_long (data_at run j) (data_long run j h (omega arith))

-- the level of data symbol k of data segment d, among those of the first n
pub level_from : (run : List (List ℤ)) (n d k : ℕ) → AreSegments run → n ≤ 4 * groups_of run → d < n → k < 828
    → get_or (levels_from run 0 n) (828 * d + k) 0 ≡ sliced (get_or (data_at run d) (4 + k) (pos 0))
unfolding levels_from sliced_data
level_from run n d k h few l m =
    let rest : k < length (drop 4 (data_at run d)) =
    omega (arith, m, length-drop 4 (data_at run d), data_long run d h (omega (arith, l, few))) in
    row_at (λ i. sliced_data (data_at run i)) 0 n d k (λ j a b. rows_are run h j a (omega (arith, b, few))) l m
    ∙ ap (λ i. get_or (sliced_data (data_at run i)) k 0) (omega arith)
    ∙ get_or-map sliced (drop 4 (data_at run d)) k (pos 0) 0 rest ∙ ap sliced (get_or-drop 4 (data_at run d) k (pos 0))

pub length-from : (run : List (List ℤ)) (a n : ℕ) → AreSegments run → a + n ≤ 4 * groups_of run
    → length (levels_from run a n) ≡ 828 * n
unfolding levels_from
length-from run a n h l = grind (arith, rows_long, segment_long, data_long)

-- ---- bytes

pub level_groups_are : (run : List (List ℤ)) → AreSegments run → level_groups (levels_in run) ≡ groups_of run
unfolding level_groups levels_in levels_from
level_groups_are run h = grind (arith, rows_long, rows_are)

pub length-bytes : (run : List (List ℤ)) → AreSegments run → length (bytes_in run) ≡ 828 * groups_of run
unfolding bytes_in bytes_back
length-bytes run h = grind (arith, length-map-range_with_len, level_groups_are)

pub byte_in : (run : List (List ℤ)) (n : ℕ) → AreSegments run → n < 828 * groups_of run
    → get_or (bytes_in run) n 0 ≡ byte_back 0 (first_bits run) (levels_in run) n
unfolding bytes_in bytes_back
byte_in run n h l = grind (arith, get_or-map-range_with_len, level_groups_are)
