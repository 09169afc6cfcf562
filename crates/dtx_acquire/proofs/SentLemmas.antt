-- Segments as they are sent: their symbols, and where these stand one behind the other.
use Rattle.std.proofs.Common.{◌≡◌, ℕ, ℤ, pos, suc, zero, ◌+◌, ◌-◌, ◌*◌, ◌/◌, ◌%◌, ◌<◌, ◌≤◌, ◌⊎◌, inl, inr, Bool, true}
use Rattle.std.proofs.Common.{false, cond, not, leb, List, [], ◌∷◌, length, map, take, drop, replicate, negsuc, get_or}
use Rattle.std.proofs.Common.{nat_abs, flat_map, refl, sym, ap, ap₂, ◌∙◌, subst, arith}
use Rattle.std.proofs.Math.Seq.{drop-append-add}
use Rattle.std.proofs.lemmas.Bool.{cases_eq, cases_lt}
use Rattle.std.proofs.lemmas.Int.{ints}
use Rattle.std.proofs.lemmas.List.{get_or-append_right, get_or-drop, get_or-map, get_or-replicate, get_or-take}
use Rattle.std.proofs.lemmas.List.{get_or_append_left, length-append, length-drop, length-map, length-take-le, take_at}
use Rattle.dtx_trellis.specs.Trellis.{symbol_of}
use Rattle.dtx_frame.specs.Segments.{bit_symbol, data_segment, field_sync, segment_sync, sync_symbols}
use Rattle.dtx_frame.proofs.CountsLemmas.{sum_is, total_ones, total_zeros}
use Rattle.dtx_frame.proofs.SymbolsLemmas as symbols
use Rattle.dtx_acquire.specs.Agreement.{are_unlike, is_plus, is_second, sync_sign, unlike, unlike_at}
use Rattle.dtx_acquire.specs.Sent.{AreInFields, AreLevels, IsData, IsSync}
use Rattle.dtx_acquire.proofs.WholeLemmas.{AreLong}

-- ---- a field sync's symbols

-- read from the tables of their symbols
fives_are : (second : Bool) → map nat_abs (sync_symbols second) ≡ replicate 820 5
fives_are false = sym (ap (map nat_abs) symbols.first_is) ∙ refl
fives_are true = sym (ap (map nat_abs) symbols.second_is) ∙ refl

-- each is +5 or -5
pub fives : (second : Bool) (i : ℕ) → i < 820 → nat_abs (get_or (sync_symbols second) i (pos 0)) ≡ 5
fives second i l =
    sym (get_or-map nat_abs (sync_symbols second) i (pos 0) 0 (omega (arith, l, symbols.length_front second)))
    ∙ ap (λ xs. get_or xs i 0) (fives_are second) ∙ get_or-replicate 820 i 5 0 l

front_same : (second : Bool) → take 515 (sync_symbols second) ≡ take 515 (sync_symbols false)
front_same false = refl
front_same true = sym (ap (take 515) symbols.second_is) ∙ ap (take 515) symbols.first_is

middle_signs : map (λ x. not (is_plus x)) (take 63 (drop 578 (sync_symbols true)))
    ≡ map is_plus (take 63 (drop 578 (sync_symbols false)))
middle_signs = sym (ap (λ xs. map (λ x. not (is_plus x)) (take 63 (drop 578 xs))) symbols.second_is)
    ∙ ap (λ xs. map is_plus (take 63 (drop 578 xs))) symbols.first_is

-- 1 where a symbol has another sign than that of a first field
abbrev pub unlike_sign : Bool → ℕ → ℕ
unlike_sign second i = cond (are_unlike (is_plus (get_or (sync_symbols second) i (pos 0))) (sync_sign i)) 1 0

never_unlike : (b c : Bool) → b ≡ c → ◌≡◌ {A = ℕ} (cond (are_unlike b c) 1 0) 0
never_unlike b true e = ap (λ x. cond (are_unlike x true) 1 0) e
never_unlike b false e = ap (λ x. cond (are_unlike x false) 1 0) e

ever_unlike : (b c : Bool) → not b ≡ c → ◌≡◌ {A = ℕ} (cond (are_unlike b c) 1 0) 1
ever_unlike true c e = ap (λ x. cond (are_unlike true x) 1 0) (sym e)
ever_unlike false c e = ap (λ x. cond (are_unlike false x) 1 0) (sym e)

first_like : (i : ℕ) → unlike_sign false i ≡ 0
unfolding sync_sign
first_like i = never_unlike (is_plus (get_or (sync_symbols false) i (pos 0))) _ refl

-- what is made of the symbols of a part
pub part_at : (f : ℤ → Bool) (a n i : ℕ) (second : Bool) → i < n → a + n ≤ 820
    → get_or (map f (take n (drop a (sync_symbols second)))) i false ≡ f (get_or (sync_symbols second) (a + i) (pos 0))
part_at f a n i second l m = get_or-map f (take n (drop a (sync_symbols second))) i (pos 0) false (omega (
  arith,
  l,
  length-take-le n (drop a (sync_symbols second))
      (omega (arith, m, length-drop a (sync_symbols second), symbols.length_front second)),
))
    ∙ ap f (get_or-take n (drop a (sync_symbols second)) i (pos 0) l ∙ get_or-drop a (sync_symbols second) i (pos 0))

-- the first 515 are the same in each field
pub front_is : (second : Bool) (i : ℕ) → i < 515
    → get_or (sync_symbols second) i (pos 0) ≡ get_or (sync_symbols false) i (pos 0)
front_is second i l =
    sym (get_or-take 515 (sync_symbols second) i (pos 0) l) ∙ ap (λ xs. get_or xs i (pos 0)) (front_same second)
    ∙ get_or-take 515 (sync_symbols false) i (pos 0) l

pub front_like : (second : Bool) (i : ℕ) → i < 515 → unlike_sign second i ≡ 0
unfolding sync_sign
front_like second i l = grind (arith, never_unlike, front_is)

middle_unlike : (i : ℕ) → i < 63 → unlike_sign true (578 + i) ≡ 1
unfolding sync_sign
middle_unlike i l = ever_unlike (is_plus (get_or (sync_symbols true) (578 + i) (pos 0)))
    (is_plus (get_or (sync_symbols false) (578 + i) (pos 0)))
    (sym (part_at (λ x. not (is_plus x)) 578 63 i true l (omega arith)) ∙ ap (λ bs. get_or bs i false) middle_signs
    ∙ part_at is_plus 578 63 i false l (omega arith))

pub sync_at : (second : Bool) (last : List ℤ) (i : ℕ) → i < 820
    → get_or (field_sync second last) i (pos 0) ≡ get_or (sync_symbols second) i (pos 0)
unfolding field_sync
sync_at second last i l =
    get_or_append_left (sync_symbols second) last (pos 0) i (omega (arith, l, symbols.length_front second))

-- its last twelve
pub last_at : (second : Bool) (last : List ℕ) (q : ℕ) → AreLevels 12 last → q < 12
    → get_or (field_sync second (map symbol_of last)) (820 + q) (pos 0) ≡ symbol_of (get_or last q 0)
unfolding field_sync
last_at second last q h l = get_or-append_right (sync_symbols second) (map symbol_of last) 820 (820 + q) (pos 0)
    (symbols.length_front second) (omega arith) ∙ ap (λ i. get_or (map symbol_of last) i (pos 0)) (omega arith)
    ∙ get_or-map symbol_of last q 0 (pos 0) (omega (arith, h.long))

pub length_sync : (second : Bool) (last : List ℕ) → AreLevels 12 last
    → length (field_sync second (map symbol_of last)) ≡ 832
unfolding field_sync
length_sync second last h = length-append (sync_symbols second) (map symbol_of last)
    ∙ ap₂ (λ a b. a + b) (symbols.length_front second) (length-map last symbol_of ∙ h.long)

-- +5 or -5, by its sign
five_by_sign : (x : ℤ) → nat_abs x ≡ 5 → x ≡ cond (is_plus x) (pos 5) (negsuc 4)
five_by_sign (pos n) e = grind arith
five_by_sign (negsuc n) e = let four : n ≡ 4 = omega arith in ap negsuc four

pub front_five : (i : ℕ) → i < 820 → get_or (sync_symbols false) i (pos 0) ≡ cond (sync_sign i) (pos 5) (negsuc 4)
unfolding sync_sign
front_five i l = five_by_sign (get_or (sync_symbols false) i (pos 0)) (fives false i l)

-- those of any sync
pub sent_front : (segment : List ℤ) → IsSync segment → (i : ℕ) → i < 515
    → get_or segment i (pos 0) ≡ get_or (sync_symbols false) i (pos 0)
sent_front segment h i l = grind (arith, sync_at, front_is)

-- by its first symbols' signs which field's it is
pub unlike_sent : (second : Bool) (last : List ℤ) (i : ℕ) → i < 820
    → unlike_at (field_sync second last) 0 i ≡ unlike_sign second i
unfolding unlike_at
unlike_sent second last i l = grind (arith, sync_at)

pub second_sent : (second : Bool) (last : List ℤ) → is_second (field_sync second last) ≡ second
unfolding is_second unlike
second_sent false last = ap (λ n. leb 32 n) (sum_is (unlike_at (field_sync false last) 0) 578 63
    ∙ total_zeros (unlike_at (field_sync false last) 0) 578 63 (λ i a b. grind (arith, unlike_sent, first_like)))
second_sent true last = ap (λ n. leb 32 n) (sum_is (unlike_at (field_sync true last) 0) 578 63
    ∙ total_ones (unlike_at (field_sync true last) 0) 578 63 (λ i a b. (let there : 578 + (i - 578) ≡ i = omega arith in
    unlike_sent true last i (omega arith) ∙ ap (unlike_sign true) (sym there) ∙ middle_unlike (i - 578) (omega arith))))

-- ---- a data segment's symbols

pub data_at : (levels : List ℕ) (k : ℕ) → AreLevels 828 levels → k < 828
    → get_or (data_segment levels) (4 + k) (pos 0) ≡ symbol_of (get_or levels k 0)
unfolding data_segment
data_at levels k h l =
    get_or-append_right segment_sync (map symbol_of levels) 4 (4 + k) (pos 0) symbols.length_sync (omega arith)
    ∙ ap (λ i. get_or (map symbol_of levels) i (pos 0)) (omega arith)
    ∙ get_or-map symbol_of levels k 0 (pos 0) (omega (arith, h.long))

pub length_data : (segment : List ℤ) → IsData segment → length segment ≡ 832
unfolding data_segment
length_data segment h = ap length h.is ∙ length-append segment_sync (map symbol_of h.levels)
    ∙ ap₂ (λ a b. a + b) symbols.length_sync (length-map h.levels symbol_of ∙ h.are.long)

-- ---- none is beyond 7 or -7

symbol_small : (z : ℕ) → z < 8 → nat_abs (symbol_of z) ≤ 7
unfolding symbol_of
symbol_small z l = omega (arith, ints, l)

sync_small : (segment : List ℤ) → IsSync segment → (k : ℕ) → k < 832 → nat_abs (get_or segment k (pos 0)) ≤ 7
sync_small segment h k l = subst (λ (s : List ℤ). nat_abs (get_or s k (pos 0)) ≤ 7) (sym h.is) (elim (cases_lt k 820) [
  | inl m ↦
      let five = ap nat_abs (sync_at h.second (map symbol_of h.last) k m) ∙ fives h.second k m in omega (arith, five)
  | inr m ↦
      let there : 820 + (k - 820) ≡ k = omega arith in
      subst (λ i. nat_abs (get_or (field_sync h.second (map symbol_of h.last)) i (pos 0)) ≤ 7) there
      (subst (λ x. nat_abs x ≤ 7) (sym (last_at h.second h.last (k - 820) h.are (omega arith)))
      (symbol_small (get_or h.last (k - 820) 0) (h.are.small (k - 820) (omega arith))))
])

bits_are : map nat_abs segment_sync ≡ replicate 4 5
unfolding segment_sync bit_symbol
bits_are = refl

data_front : (levels : List ℕ) (k : ℕ) → k < 4 → nat_abs (get_or (data_segment levels) k (pos 0)) ≡ 5
unfolding data_segment
data_front levels k l =
    let there : k < length segment_sync = omega (arith, l, symbols.length_sync) in
    grind (arith, get_or_append_left, get_or-map) ∙ ap (λ xs. get_or xs k 0) bits_are ∙ get_or-replicate 4 k 5 0 l

data_small : (segment : List ℤ) → IsData segment → (k : ℕ) → k < 832 → nat_abs (get_or segment k (pos 0)) ≤ 7
data_small segment h k l = subst (λ (s : List ℤ). nat_abs (get_or s k (pos 0)) ≤ 7) (sym h.is) (by_place (cases_lt k 4))
  where
    by_place : (k < 4) ⊎ (4 ≤ k) → nat_abs (get_or (data_segment h.levels) k (pos 0)) ≤ 7
    by_place (inl m) = omega (arith, data_front h.levels k m)
    by_place (inr m) =
        let there : 4 + (k - 4) ≡ k = omega arith in
        subst (λ i. nat_abs (get_or (data_segment h.levels) i (pos 0)) ≤ 7) there (grind (arith, data_at, symbol_small))

-- ---- all of them, one behind the other

abbrev pub all_symbols : List (List ℤ) → List ℤ
all_symbols sent = flat_map (λ (s : List ℤ). s) sent

pub row_long : (sent : List (List ℤ)) → AreInFields sent → (i : ℕ) → i < length sent → length (get_or sent i []) ≡ 832
row_long sent h i l = grind (arith, cases_eq, length_sync, length_data)

pub row_small : (sent : List (List ℤ)) → AreInFields sent → (i k : ℕ) → i < length sent → k < 832
    → nat_abs (get_or (get_or sent i []) k (pos 0)) ≤ 7
row_small sent h i k l m = grind (arith, cases_eq, sync_small, data_small)

length-rows : (xs : List (List ℤ)) → AreLong xs → length (all_symbols xs) ≡ 832 * length xs
length-rows [] h = refl
length-rows (x ∷ xs) h = length-append x (all_symbols xs)
    ∙ ap₂ (λ a b. a + b) (h 0 (omega arith)) (length-rows xs (λ i l. h (suc i) (omega arith)))
    ∙ omega arith

rows_at : (xs : List (List ℤ)) → AreLong xs → (i : ℕ) → i < length xs
    → take 832 (drop (832 * i) (all_symbols xs)) ≡ get_or xs i []
rows_at [] h i l = absurd (omega arith)
rows_at (x ∷ xs) h zero l = take_at x (all_symbols xs) 832 (h 0 (omega arith))
rows_at (x ∷ xs) h (suc i) l =
    let first : length x ≡ 832 = h 0 (omega arith) in
    let far : 832 * suc i ≡ length x + 832 * i = omega (arith, first) in
    grind (arith, drop-append-add) ∙ rows_at xs (λ j m. h (suc j) (omega arith)) i (omega arith)

pub length_sent : (sent : List (List ℤ)) → AreInFields sent → length (all_symbols sent) ≡ 832 * length sent
length_sent sent h = length-rows sent (row_long sent h)

-- a segment of them, and a symbol
pub segment_there : (sent : List (List ℤ)) → AreInFields sent → (i : ℕ) → i < length sent
    → take 832 (drop (832 * i) (all_symbols sent)) ≡ get_or sent i []
segment_there sent h i l = rows_at sent (row_long sent h) i l

pub symbol_there : (sent : List (List ℤ)) → AreInFields sent → (i k : ℕ) → i < length sent → k < 832
    → get_or (all_symbols sent) (832 * i + k) (pos 0) ≡ get_or (get_or sent i []) k (pos 0)
symbol_there sent h i k l m = sym (get_or-drop (832 * i) (all_symbols sent) k (pos 0))
    ∙ sym (get_or-take 832 (drop (832 * i) (all_symbols sent)) k (pos 0) m)
    ∙ ap (λ (s : List ℤ). get_or s k (pos 0)) (segment_there sent h i l)

pub symbols_small : (sent : List (List ℤ)) → AreInFields sent → (n : ℕ) → n < length (all_symbols sent)
    → nat_abs (get_or (all_symbols sent) n (pos 0)) ≤ 7
symbols_small sent h n l =
    let there : 832 * (n / 832) + n % 832 ≡ n = omega arith in
    let row : n / 832 < length sent = omega (arith, l, length_sent sent h) in
    subst (λ i. nat_abs (get_or (all_symbols sent) i (pos 0)) ≤ 7) there (grind (arith, symbol_there, row_small))
