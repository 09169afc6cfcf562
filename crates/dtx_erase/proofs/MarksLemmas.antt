-- The marks of a run go the way of its bytes: a run shown as its marks has the byte 0 just where no byte is marked.
use Rattle.std.proofs.Common.{◌≡◌, ℕ, ℤ, ◌+◌, ◌-◌, ◌*◌, ◌/◌, ◌%◌, ◌<◌, ◌||◌, Bool, true, false, cond, List, [], ◌∷◌}
use Rattle.std.proofs.Common.{◌++◌, map, length, drop, get_or, refl, sym, ap, ap₂, ◌∙◌, arith}
use Rattle.std.specs.List.{range_with_len, flat_map}
use Rattle.std.proofs.Math.ListN.{get_or-map}
use Rattle.std.proofs.lemmas.Simd.{map-map}
use Rattle.std.proofs.lemmas.Bool.{cond-false, ne_eqb}
use Rattle.std.proofs.lemmas.List.{length-append, length-drop, length-map, drop-map, map-append}
use Rattle.std.proofs.lemmas.List.FromFn.{get_or-map-range_with_len, length-map-range_with_len}
use Rattle.dtx_lists.proofs.Range.{map-range_same}
use Rattle.dtx_lists.proofs.RangeMoved.{flat_map-range_same}
use Rattle.dtx_slice.specs.Slicing.{sliced, sliced_data, sliced_last}
use Rattle.dtx_slice.specs.Unrolled.{symbol_place, precoder_bit, precoder_bits_of, pair_from, pair_back, byte_back}
use Rattle.dtx_slice.specs.Unrolled.{coder_of, bytes_back, level_groups}
use Rattle.dtx_outer.specs.Inner.{codeword_byte_place, word_at}
use Rattle.dtx_receiver.specs.Bytes.{data_count, data_at, groups_of, levels_from, levels_in, first_bits, bytes_in}
use Rattle.dtx_receiver.proofs.CountingLemmas.{bytes_count}
use Rattle.dtx_erase.specs.Marks.{is_missing, missing_in, was_missing, is_marked, marks_in, shown, shown_run, is_set}
use Rattle.dtx_erase.specs.Mended.{marks_at}

map_flat : {X Y : Type 0} (g : X → Y) (f : ℕ → List X) (xs : List ℕ)
    → map g (flat_map f xs) ≡ flat_map (λ i. map g (f i)) xs
map_flat g f [] = refl
map_flat g f (x ∷ xs) = map-append g (f x) (flat_map f xs) ∙ ap (λ ys. map g (f x) ++ ys) (map_flat g f xs)

-- ---- levels

-- the level of a symbol that is missing, or isn't, and its Z2
abbrev level_of : Bool → ℕ
level_of mark = cond mark 7 0

abbrev bit_of : Bool → ℕ
bit_of mark = cond mark 1 0

shown_level : (symbol : ℤ) → sliced (shown symbol) ≡ level_of (is_missing symbol)
unfolding sliced
shown_level symbol = grind arith

levels_same : (xs : List ℤ) → map sliced (map shown xs) ≡ map level_of (map is_missing xs)
levels_same [] = refl
levels_same (x ∷ xs) = ap₂ (λ (l : ℕ) (ls : List ℕ). l ∷ ls) (shown_level x) (levels_same xs)

behind : (n : ℕ) (x : List ℤ) → map sliced (drop n (map shown x)) ≡ map level_of (map is_missing (drop n x))
behind n x = ap (map sliced) (drop-map shown n x) ∙ levels_same (drop n x)

segment_at : (run : List (List ℤ)) (i : ℕ) → get_or (shown_run run) i [] ≡ map shown (get_or run i [])
segment_at run i = get_or-map (map shown) run i []

pub shown_data : (run : List (List ℤ)) (d : ℕ) → data_at (shown_run run) d ≡ map shown (data_at run d)
unfolding data_at
shown_data run d = segment_at run (d + d / 312 + 1)

pub shown_count : (run : List (List ℤ)) → data_count (shown_run run) ≡ data_count run
unfolding data_count
shown_count run = ap (λ l. l - (l + 312) / 313) (length-map run (map shown))

pub shown_groups : (run : List (List ℤ)) → groups_of (shown_run run) ≡ groups_of run
unfolding groups_of
shown_groups run = ap (λ d. d / 4) (shown_count run)

data_levels : (x : List ℤ) → sliced_data (map shown x) ≡ map level_of (map is_missing (drop 4 x))
unfolding sliced_data
data_levels x = behind 4 x

shown_levels : (run : List (List ℤ)) → levels_in (shown_run run) ≡ map level_of (missing_in run)
unfolding levels_in levels_from missing_in
shown_levels run = grind (arith, shown_groups, flat_map-range_same, shown_data, data_levels, map_flat)

-- ---- how many bytes

-- how many groups of bytes a run has
abbrev pub groups : List (List ℤ) → ℕ
groups run = level_groups (levels_in run)

pub bytes_long : (run : List (List ℤ)) → length (bytes_in run) ≡ 828 * groups run
bytes_long run = grind (arith, bytes_count)

-- a run shown as its marks has as many levels, and so as many bytes

pub as_long : {X Y Z : Type 0} (f : X → List Y) (g : X → List Z) (xs : List X)
    → ((x : X) → length (f x) ≡ length (g x)) → length (flat_map f xs) ≡ length (flat_map g xs)
as_long f g [] h = refl
as_long f g (x ∷ xs) h = length-append (f x) (flat_map f xs) ∙ ap₂ (λ (a b : ℕ). a + b) (h x) (as_long f g xs h)
    ∙ sym (length-append (g x) (flat_map g xs))

data_long : (x : List ℤ) → length (sliced_data (map shown x)) ≡ length (sliced_data x)
unfolding sliced_data
data_long x = grind (arith, length-map, length-drop)

levels_long : (run : List (List ℤ)) → length (levels_in (shown_run run)) ≡ length (levels_in run)
unfolding levels_in levels_from
levels_long run = grind (arith, shown_groups, as_long, shown_data, data_long)

groups_shown : (run : List (List ℤ)) → groups (shown_run run) ≡ groups run
unfolding level_groups
groups_shown run = ap (λ n. n / 3312) (levels_long run)

pub flags_long : (run : List (List ℤ)) → length (bytes_in (shown_run run)) ≡ 828 * groups run
flags_long run = bytes_long (shown_run run) ∙ ap (λ g. 828 * g) (groups_shown run)

-- ---- pairs

quarter : (t : Bool) → level_of t / 4 ≡ bit_of t
quarter true = refl
quarter false = refl

first_level : (x : List ℤ) (i : ℕ) → get_or (sliced_last (map shown x)) i 0
    ≡ level_of (get_or (map is_missing (drop 820 x)) i false)
unfolding sliced_last
first_level x i = ap (λ ls. get_or ls i 0) (behind 820 x) ∙ get_or-map level_of (map is_missing (drop 820 x)) i false

first_bit : (run : List (List ℤ)) (e : ℕ) → e < 12 → get_or (first_bits (shown_run run)) e 0
    ≡ bit_of (get_or (map is_missing (drop 820 (get_or run 0 []))) ((e + 4) % 12) false)
unfolding first_bits precoder_bits_of
first_bit run e l =
    get_or-map-range_with_len (λ e. get_or (sliced_last (get_or (shown_run run) 0 [])) ((e + 4) % 12) 0 / 4) 0 12 e e 0
    l (omega arith) ∙ grind (arith, segment_at, first_level, quarter)

level_at : (run : List (List ℤ)) (i : ℕ) → get_or (levels_in (shown_run run)) i 0
    ≡ level_of (get_or (missing_in run) i false)
level_at run i = ap (λ ls. get_or ls i 0) (shown_levels run) ∙ get_or-map level_of (missing_in run) i false

either : (t a b : Bool) (m n : ℕ) → m ≡ bit_of a → n ≡ bit_of b → cond t m n ≡ bit_of (cond t a b)
either true a b m n e f = e
either false a b m n e f = f

bit_before : (run : List (List ℤ)) (r e : ℕ) → e < 12
    → precoder_bit 0 (first_bits (shown_run run)) (levels_in (shown_run run)) r e ≡ bit_of (was_missing run r e)
unfolding precoder_bit was_missing
bit_before run r e l = grind (arith, either, first_bit, level_at, quarter)

missing_next : (run : List (List ℤ)) (r e : ℕ)
    → was_missing run (r + 1) e ≡ get_or (missing_in run) (symbol_place 0 r e) false
unfolding was_missing
missing_next run r e = grind (arith, cond-false, ne_eqb)

abbrev pair_of : Bool → Bool → ℕ
pair_of a b = pair_from (bit_of a) (level_of b)

pair_is : (run : List (List ℤ)) (r u e : ℕ) → e < 12 → r + 1 ≡ u
    → pair_back 0 (first_bits (shown_run run)) (levels_in (shown_run run)) r e
    ≡ pair_of (was_missing run r e) (was_missing run u e)
unfolding pair_back
pair_is run r u e l h = grind (arith, bit_before, level_at, missing_next)

-- ---- bytes

set_by : (a b c d e : Bool) → is_set (64 * pair_of a b + 16 * pair_of b c + 4 * pair_of c d + pair_of d e)
    ≡ (a || (b || (c || (d || e))))
set_by true true true true true = refl
set_by true true true true false = refl
set_by true true true false true = refl
set_by true true true false false = refl
set_by true true false true true = refl
set_by true true false true false = refl
set_by true true false false true = refl
set_by true true false false false = refl
set_by true false true true true = refl
set_by true false true true false = refl
set_by true false true false true = refl
set_by true false true false false = refl
set_by true false false true true = refl
set_by true false false true false = refl
set_by true false false false true = refl
set_by true false false false false = refl
set_by false true true true true = refl
set_by false true true true false = refl
set_by false true true false true = refl
set_by false true true false false = refl
set_by false true false true true = refl
set_by false true false true false = refl
set_by false true false false true = refl
set_by false true false false false = refl
set_by false false true true true = refl
set_by false false true true false = refl
set_by false false true false true = refl
set_by false false true false false = refl
set_by false false false true true = refl
set_by false false false true false = refl
set_by false false false false true = refl
set_by false false false false false = refl

coder_small : (j : ℕ) → coder_of 0 j < 12
unfolding coder_of
coder_small j = omega arith

byte_set : (run : List (List ℤ)) (j : ℕ)
    → is_set (byte_back 0 (first_bits (shown_run run)) (levels_in (shown_run run)) j) ≡ is_marked run j
unfolding byte_back is_marked
byte_set run j =
    let r : ℕ = 4 * (j / 12) in
    let e : ℕ = coder_of 0 j in
    let l : e < 12 = coder_small j in
    let two : r + 1 + 1 ≡ r + 2 = omega arith in
    let three : r + 2 + 1 ≡ r + 3 = omega arith in
    let four : r + 3 + 1 ≡ r + 4 = omega arith in
    ap is_set (ap₂ (λ (x y : ℕ). x + y) (grind (arith, pair_is)) (pair_is run (r + 3) (r + 4) e l four))
    ∙ set_by (was_missing run r e) (was_missing run (r + 1) e) (was_missing run (r + 2) e) (was_missing run (r + 3) e)
    (was_missing run (r + 4) e)

pub marks_are : (run : List (List ℤ)) → marks_in run ≡ map is_set (bytes_in (shown_run run))
unfolding marks_in bytes_in bytes_back
marks_are run = ap (λ n. map (is_marked run) (range_with_len 0 n)) (bytes_long run ∙ sym (flags_long run)) ∙ there
  where
    n : ℕ
    n = 828 * level_groups (levels_in (shown_run run))

    there : map (is_marked run) (range_with_len 0 (length (bytes_in (shown_run run))))
        ≡ map is_set (bytes_in (shown_run run))
    there = grind (arith, length-map-range_with_len, map-range_same, byte_set, map-map)

-- ---- words

pub marks_word : (flags : List ℕ) (k : ℕ) → marks_at (map is_set flags) k ≡ map is_set (word_at 207 52 4 flags k)
unfolding marks_at word_at
marks_word flags k = map-range_same (λ p. get_or (map is_set flags) (codeword_byte_place 52 4 p) false)
    (λ p. is_set (get_or flags (codeword_byte_place 52 4 p) 0)) (207 * k) 207
    (λ p a b. get_or-map is_set flags (codeword_byte_place 52 4 p) 0)
    ∙ sym (map-map is_set (λ p. get_or flags (codeword_byte_place 52 4 p) 0) (range_with_len (207 * k) 207))

pub shown_push : (run : List (List ℤ)) (x : List ℤ) → shown_run (run ++ x ∷ []) ≡ shown_run run ++ map shown x ∷ []
shown_push run x = map-append (map shown) run (x ∷ [])
