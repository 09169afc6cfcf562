-- A byte of a run hangs on the levels of five symbols.
use Rattle.std.proofs.Common.{◌≡◌, ℕ, ℤ, pos, zero, suc, ◌+◌, ◌-◌, ◌*◌, ◌/◌, ◌%◌, ◌<◌, ◌≤◌, List, [], ◌⊎◌, length, map}
use Rattle.std.proofs.Common.{drop, get_or, sym, ap, ap₂, ◌∙◌, subst, arith}
use Rattle.std.specs.List.{range_with_len, flat_map}
use Rattle.std.proofs.lemmas.List.{get_or_append_left, get_or-append_right, get_or-drop, get_or-map, length-drop}
use Rattle.std.proofs.lemmas.List.{length-append, length-map}
use Rattle.std.proofs.lemmas.List.FromFn.{get_or-map-range_with_len, length-map-range_with_len}
use Rattle.dtx_slice.specs.Slicing.{sliced, sliced_data, sliced_last}
use Rattle.dtx_slice.specs.Unrolled.{symbol_place, precoder_bit, pair_from, pair_back, coder_of, byte_back}
use Rattle.dtx_slice.specs.Unrolled.{precoder_bits_of, level_groups, bytes_back}
use Rattle.dtx_slice.proofs.PlacesLemmas.{precoder_bit_zero, precoder_bit_next}
use Rattle.dtx_slice.proofs.InverseLemmas.{place_within, coder_of_small}
use Rattle.dtx_receiver.specs.Bytes.{data_count, data_at, groups_of, levels_from, levels_in, first_bits, bytes_in}
use Rattle.dtx_receiver.proofs.SegmentsLemmas.{segment_long}
use Rattle.dtx_bursts.specs.Burst.{symbol_at, symbol_level}
use Rattle.dtx_bursts.proofs.Places.{position, position_of, first_position, next_position, of_rises, begin_of, end_of}

-- ---- lists of lists, each as long

pub flat_at : {X : Type 0} (f : ℕ → List X) (w a n i k : ℕ) (d : X) → ((j : ℕ) → j < n → length (f (a + j)) ≡ w)
    → i < n → k < w → get_or (flat_map f (range_with_len a n)) (w * i + k) d ≡ get_or (f (a + i)) k d
flat_at f w a zero i k d long l m = absurd (omega arith)
flat_at f w a (suc n) zero k d long l m = grind (arith, get_or_append_left)
flat_at f w a (suc n) (suc i) k d long l m =
    let next : w * suc i + k - w ≡ w * i + k = omega arith in
    let within : w ≤ w * suc i + k = omega arith in
    let own : length (f a) ≡ w = subst (λ (b : ℕ). length (f b) ≡ w) (omega arith) (long 0 (omega arith)) in
    get_or-append_right (f a) (flat_map f (range_with_len (a + 1) n)) w (w * suc i + k) d own within
    ∙ ap (λ (x : ℕ). get_or (flat_map f (range_with_len (a + 1) n)) x d) next ∙ flat_at f w (a + 1) n i k d
    (λ j h. subst (λ (b : ℕ). length (f b) ≡ w) (omega arith) (long (suc j) (omega (arith, h)))) (omega (arith, l)) m
    ∙ ap (λ (b : ℕ). get_or (f b) k d) (sym (omega arith))

-- ---- the levels of a run

-- each segment is whole
abbrev pub AreWhole : List (List ℤ) → Type 0
AreWhole run = (i : ℕ) → i < length run → length (get_or run i []) ≡ 832

pub data_within : (run : List (List ℤ)) (d : ℕ) → d < 4 * groups_of run → d + d / 312 + 1 < length run
unfolding groups_of data_count
data_within run d l = grind arith

part_at : {X : Type 0} (f : ℤ → X) (n k : ℕ) (x : List ℤ) (z : X) → n + k < length x
    → get_or (map f (drop n x)) k z ≡ f (get_or x (n + k) (pos 0))
part_at f n k x z l = grind (arith, get_or-map, length-drop, get_or-drop)

-- data symbol d, as f tells it
pub data_is : {X : Type 0} (f : ℤ → X) (run : List (List ℤ)) (d : ℕ) (z : X) → AreWhole run → d < 3312 * groups_of run
    → get_or (flat_map (λ i. map f (drop 4 (data_at run i))) (range_with_len 0 (4 * groups_of run))) d z
    ≡ f (symbol_at run (position d))
unfolding data_at
data_is {X} f run d z whole l =
    let i : ℕ = d / 828 in
    let k : ℕ = d % 828 in
    let in_data : i < 4 * groups_of run = omega (arith, l) in
    let place : i ≡ 0 + i = omega arith in
    let own : length (get_or run (i + i / 312 + 1) []) ≡ 832 = whole (i + i / 312 + 1) (data_within run i in_data) in
    let segment : (832 * (i + i / 312 + 1) + 4 + k) / 832 ≡ i + i / 312 + 1 = omega arith in
    let symbol : (832 * (i + i / 312 + 1) + 4 + k) % 832 ≡ 4 + k = omega arith in
    ap (λ n. get_or (flat_map part (range_with_len 0 (4 * groups_of run))) n z) (omega arith)
    ∙ flat_at part 828 0 (4 * groups_of run) i k z long in_data (omega arith)
    ∙ ap (λ n. get_or (part n) k z) (sym place) ∙ part_at f 4 k (get_or run (i + i / 312 + 1) []) z (omega (arith, own))
    ∙ ap₂ (λ a b. f (get_or (get_or run a []) b (pos 0))) (sym segment) (sym symbol)
  where
    part : ℕ → List X
    part = λ i. map f (drop 4 (get_or run (i + i / 312 + 1) []))

    long : (j : ℕ) → j < 4 * groups_of run → length (part (0 + j)) ≡ 828
    long j h = grind (arith, length-map, length-drop, data_within)

-- the symbol of coder e before round 0
pub early_is : {X : Type 0} (f : ℤ → X) (run : List (List ℤ)) (e : ℕ) (z : X) → AreWhole run → 0 < length run
    → get_or (map f (drop 820 (get_or run 0 []))) ((e + 4) % 12) z ≡ f (symbol_at run (position_of 0 e))
early_is f run e z whole some =
    let segment : 0 ≡ (820 + ((e + 4) % 12)) / 832 = omega arith in
    let symbol : 820 + ((e + 4) % 12) ≡ (820 + ((e + 4) % 12)) % 832 = omega arith in
    part_at f 820 ((e + 4) % 12) (get_or run 0 []) z (omega arith)
    ∙ ap₂ (λ a b. f (get_or (get_or run a []) b (pos 0))) segment symbol
    ∙ ap (λ n. f (symbol_at run n)) (sym (first_position e))

level_is : (run : List (List ℤ)) (d : ℕ) → AreWhole run → d < 3312 * groups_of run
    → get_or (levels_in run) d 0 ≡ symbol_level run (position d)
unfolding levels_in levels_from sliced_data symbol_level
level_is run d whole l = data_is sliced run d 0 whole l

-- ---- a coder's bit and its next symbol

-- the level of the symbol of coder e before round r
abbrev pub level_before : List (List ℤ) → ℕ → ℕ → ℕ
level_before run r e = symbol_level run (position_of r e)

first_bit : (run : List (List ℤ)) (e : ℕ) → AreWhole run → 0 < length run → e < 12
    → get_or (first_bits run) e 0 ≡ level_before run 0 e / 4
unfolding first_bits precoder_bits_of sliced_last symbol_level
first_bit run e whole some l =
    get_or-map-range_with_len (λ e. get_or (map sliced (drop 820 (get_or run 0 []))) ((e + 4) % 12) 0 / 4) 0 12 e e 0 l
    (omega arith)
    ∙ ap (λ n. n / 4) (early_is sliced run e 0 whole some)

bit_is : (run : List (List ℤ)) (r e : ℕ) → AreWhole run → 0 < length run → r ≤ 276 * groups_of run → e < 12
    → precoder_bit 0 (first_bits run) (levels_in run) r e ≡ level_before run r e / 4
bit_is run zero e whole some l m = precoder_bit_zero 0 e (first_bits run) (levels_in run) ∙ first_bit run e whole some m
bit_is run (suc r) e whole some l m = ap (λ n. precoder_bit 0 (first_bits run) (levels_in run) n e) (omega arith)
    ∙ precoder_bit_next 0 r e (first_bits run) (levels_in run)
    ∙ ap (λ x. x / 4) (level_is run (symbol_place 0 r e) whole (place_within 0 r e (groups_of run) (omega (arith, l)))
    ∙ ap (symbol_level run) (sym (next_position r e)) ∙ ap (λ n. level_before run n e) (sym (omega arith)))

-- ---- two runs

-- The levels are those of another run where the symbols on which byte y hangs have the same levels.
pub record AreSame (a b : List (List ℤ)) (y : ℕ) : Type 0 where
  pub same : (i : ℕ) → i < 5 → level_before a (4 * (y / 12) + i) (coder_of 0 y)
      ≡ level_before b (4 * (y / 12) + i) (coder_of 0 y)

pub pair_is : (run : List (List ℤ)) (r e : ℕ) → AreWhole run → 0 < length run → r < 276 * groups_of run → e < 12
    → pair_back 0 (first_bits run) (levels_in run) r e
    ≡ pair_from (level_before run r e / 4) (level_before run (r + 1) e)
unfolding pair_back
pair_is run r e whole some l m = ap₂ pair_from (bit_is run r e whole some (omega (arith, l)) m)
    (rw (level_is run (symbol_place 0 r e) whole (place_within 0 r e (groups_of run) l), ← next_position r e))

same_pair : (a b : List (List ℤ)) (r e : ℕ) → AreWhole a → AreWhole b → 0 < length a → length b ≡ length a
    → groups_of b ≡ groups_of a → r < 276 * groups_of a → e < 12 → level_before a r e ≡ level_before b r e
    → level_before a (r + 1) e ≡ level_before b (r + 1) e
    → pair_back 0 (first_bits a) (levels_in a) r e ≡ pair_back 0 (first_bits b) (levels_in b) r e
same_pair a b r e wa wb some as_long as_many l m x y = grind (arith, pair_is)

-- ---- the bytes of two runs

-- Two runs of as many whole segments.
pub record AreAlike (a b : List (List ℤ)) : Type 0 where
  pub first : AreWhole a
  pub second : AreWhole b
  pub some : 0 < length a
  pub as_long : length b ≡ length a

pub same_groups : (a b : List (List ℤ)) → length b ≡ length a → groups_of b ≡ groups_of a
unfolding groups_of data_count
same_groups a b e = ap (λ n. (n - (n + 312) / 313) / 4) e

same_byte : (a b : List (List ℤ)) (y : ℕ) → AreAlike a b → y < 828 * groups_of a → AreSame a b y
    → byte_back 0 (first_bits a) (levels_in a) y ≡ byte_back 0 (first_bits b) (levels_in b) y
unfolding byte_back
same_byte a b y h l s = grind (arith, same_pair, same_groups, coder_of_small)

length-flat : {X : Type 0} (f : ℕ → List X) (w a n : ℕ) → ((j : ℕ) → j < n → length (f (a + j)) ≡ w)
    → length (flat_map f (range_with_len a n)) ≡ w * n
length-flat f w a zero long = omega arith
length-flat f w a (suc n) long =
    let z : a + 0 ≡ a = omega arith in
    omega (
      arith,
      length-append (f a) (flat_map f (range_with_len (a + 1) n)),
      subst (λ (b : ℕ). length (f b) ≡ w) z (long 0 (omega arith)),
      length-flat f w (a + 1) n (λ j l. subst (λ (b : ℕ). length (f b) ≡ w) (omega arith) (long (suc j) (omega arith))),
    )

level_groups_are : (run : List (List ℤ)) → AreWhole run → level_groups (levels_in run) ≡ groups_of run
unfolding level_groups levels_in levels_from data_at
level_groups_are run whole = ap (λ n. n / 3312) (grind (arith, length-flat, segment_long, data_within))
    ∙ back (groups_of run)
  where
    back : (g : ℕ) → 828 * (4 * g) / 3312 ≡ g
    back g = omega arith

pub byte_at : (run : List (List ℤ)) (y : ℕ) → AreWhole run → y < 828 * groups_of run
    → get_or (bytes_in run) y 0 ≡ byte_back 0 (first_bits run) (levels_in run) y
unfolding bytes_in bytes_back
byte_at run y whole l = grind (arith, get_or-map-range_with_len, level_groups_are)

pub length-run : (run : List (List ℤ)) → AreWhole run → length (bytes_in run) ≡ 828 * groups_of run
unfolding bytes_in bytes_back
length-run run whole = grind (arith, length-map-range_with_len, level_groups_are)

pub byte_stays : (a b : List (List ℤ)) (y : ℕ) → AreAlike a b → y < 828 * groups_of a → AreSame a b y
    → get_or (bytes_in a) y 0 ≡ get_or (bytes_in b) y 0
byte_stays a b y h l s = grind (arith, byte_at, same_byte, same_groups)

-- ---- a byte off the symbols from one on and before another

rises_by : (r i e : ℕ) → position_of r e ≤ position_of (r + i) e
rises_by r zero e = subst (λ n. position_of r e ≤ position_of n e) (let z : r ≡ r + 0 = omega arith in z) (omega arith)
rises_by r (suc i) e =
    let z : r + i + 1 ≡ r + suc i = omega arith in
    rw (← z) (omega (arith, rises_by r i e, of_rises (r + i) e))

position_within : (run : List (List ℤ)) (d : ℕ) → d < 3312 * groups_of run → position d < 832 * length run
position_within run d l = omega (arith, data_within run (d / 828) (omega (arith, l)))

of_within : (run : List (List ℤ)) (r e : ℕ) → 0 < length run → r ≤ 276 * groups_of run
    → position_of r e < 832 * length run
of_within run zero e some l = omega (arith, first_position e, some)
of_within run (suc r) e some l =
    let a : r + 1 ≡ suc r = omega arith in
    rw (← a) (omega (
      arith,
      next_position r e,
      position_within run (symbol_place 0 r e) (place_within 0 r e (groups_of run) (omega (arith, l))),
    ))

-- the symbols from one on, so many, are the only ones that may differ
abbrev pub DifferWithin : (count from : ℕ) (a b : List (List ℤ)) → Type 0
DifferWithin count from a b = (n : ℕ) → n < 832 * length a → (n < from) ⊎ (from + count ≤ n)
    → symbol_level a n ≡ symbol_level b n

-- a byte's symbols, from the first to the last
pub symbol_within : (run : List (List ℤ)) (y i : ℕ) → 0 < length run → y < 828 * groups_of run → i < 5
    → position_of (4 * (y / 12) + i) (coder_of 0 y) < 832 * length run
symbol_within run y i some l m = of_within run (4 * (y / 12) + i) (coder_of 0 y) some (omega (arith, l, m))

pub not_before : (y i : ℕ) → begin_of y ≤ position_of (4 * (y / 12) + i) (coder_of 0 y)
not_before y i = rises_by (4 * (y / 12)) i (coder_of 0 y)

pub not_behind : (y i : ℕ) → i < 5 → position_of (4 * (y / 12) + i) (coder_of 0 y) ≤ end_of y
not_behind y i m =
    let z : 4 * (y / 12) + i + (4 - i) ≡ 4 * (y / 12) + 4 = omega (arith, m) in
    rw (← z) (rises_by (4 * (y / 12) + i) (4 - i) (coder_of 0 y))

pub off_byte : (a b : List (List ℤ)) (count from y : ℕ) → AreAlike a b → DifferWithin count from a b
    → y < 828 * groups_of a → (end_of y < from) ⊎ (from + count ≤ begin_of y)
    → get_or (bytes_in a) y 0 ≡ get_or (bytes_in b) y 0
off_byte a b count from y h d l off =
    grind (arith, byte_stays, position_of, symbol_within, end_of, begin_of, not_behind, not_before)
