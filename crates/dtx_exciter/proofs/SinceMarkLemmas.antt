-- The lemma of 52 packets, of two streams: behind a mark nothing that leaves 52 or more packets later is from before
-- it.
use Rattle.std.proofs.Common.{◌≡◌, ℕ, ◌+◌, ◌-◌, ◌*◌, ◌/◌, ◌%◌, ◌<◌, ◌≤◌, List, ◌++◌, length, take, drop, get_or, sym}
use Rattle.std.proofs.Common.{ap, ap₂, ◌∙◌, arith, zero-add}
use Rattle.std.proofs.lemmas.Bool.{cond-true, le-leb}
use Rattle.std.proofs.lemmas.List.{ext_get_or, get_or-drop, get_or-append_right, length-append, length-drop}
use Rattle.std.proofs.lemmas.List.{length-take-le, take-append-drop, take-take, drop-take}
use Rattle.dtx_laws.proofs.InterleavingLemmas.{get_or-interleaved}
use Rattle.dtx_trellis.specs.Groups.{levels_of}
use Rattle.dtx_coder.specs.Stream.{coded, spread, whole_groups, levels, states, four_segments}
use Rattle.dtx_coder.specs.Along.{levels_since, states_since}
use Rattle.dtx_coder.proofs.BytesLemmas.{coded_append, coded_place, length-coded, length-spread, whole_is}
use Rattle.dtx_coder.proofs.LevelsLemmas.{length-levels, levels_from, states_from}
use Rattle.dtx_coder.proofs.SegmentsLemmas.{four_behind}

-- ---- bytes

coded_mark : (a s : List (List ℕ)) → length a % 624 ≡ 0 → coded (a ++ s) ≡ coded a ++ coded s
coded_mark a s m = grind (arith, coded_append, zero-add, coded_place)

byte_at : (a s : List (List ℕ)) (t : ℕ) → length a % 624 ≡ 0 → 10764 ≤ t → t < 207 * length s
    → get_or (spread (a ++ s)) (207 * length a + t) 0 ≡ get_or (spread s) t 0
unfolding spread
byte_at a s t m l u =
    grind (arith, length-coded, length-append, get_or-interleaved, cond-true, le-leb, coded_mark, get_or-append_right)

bytes_since : (a s : List (List ℕ)) (n k : ℕ) → length a % 624 ≡ 0 → 10764 ≤ n → k ≡ 207 * length a + n
    → drop k (spread (a ++ s)) ≡ drop n (spread s)
bytes_since a s n k m l e = ext_get_or 0 (drop k (spread (a ++ s))) (drop n (spread s))
    (grind (arith, length-drop, length-spread, length-append))
    (λ i h. at i (omega (arith, h, e, length-drop k (spread (a ++ s)), length-spread (a ++ s), length-append a s)))
  where
    at : (i : ℕ) → n + i < 207 * length s → get_or (drop k (spread (a ++ s))) i 0 ≡ get_or (drop n (spread s)) i 0
    at i h = grind (arith, get_or-drop, byte_at)

-- ---- levels and states

-- from group g on, whose first packet is packet x behind the mark
groups_since : (a s : List (List ℕ)) (x g : ℕ) → length a % 624 ≡ 0 → length s % 4 ≡ 0 → 52 ≤ x → x % 4 ≡ 0
    → 4 * g ≡ length a + x → drop (828 * g) (whole_groups (a ++ s)) ≡ drop (828 * (x / 4)) (whole_groups s)
groups_since a s x g m w l y e =
    ap (drop (828 * g)) (whole_is (a ++ s) ((length a + length s) / 4) (omega (arith, m, w, length-append a s)))
    ∙ bytes_since a s (207 * x) (828 * g) m (omega (arith, l)) (omega (arith, e))
    ∙ ap₂ drop (sym (omega (arith, y))) (sym (whole_is s (length s / 4) (omega (arith, w))))

place_since : (n x g : ℕ) → n % 624 ≡ 0 → x % 4 ≡ 0 → 4 * g ≡ n + x → 4 * g % 312 ≡ 4 * (x / 4) % 312
place_since n x g m y e = omega (arith, m, y, e)

pub levels_mark : (a s : List (List ℕ)) (x g : ℕ) (q : List ℕ) → length a % 624 ≡ 0 → length s % 4 ≡ 0 → 52 ≤ x
    → x % 4 ≡ 0 → 4 * g ≡ length a + x → levels_since g q (a ++ s) ≡ levels_since (x / 4) q s
unfolding levels_since
levels_mark a s x g q m w l y e = grind (arith, place_since, groups_since)

pub states_mark : (a s : List (List ℕ)) (x g : ℕ) (q : List ℕ) → length a % 624 ≡ 0 → length s % 4 ≡ 0 → 52 ≤ x
    → x % 4 ≡ 0 → 4 * g ≡ length a + x → states_since g q (a ++ s) ≡ states_since (x / 4) q s
unfolding states_since
states_mark a s x g q m w l y e = grind (arith, place_since, groups_since)

-- the states of a stream, from those before group g
pub states_from_group : (f : List (List ℕ)) (g : ℕ) → 4 * g ≤ length f
    → states f ≡ states_since g (states (take (4 * g) f)) f
unfolding states_since
states_from_group f g h = states_from f g h

-- the data segments of a stream's group v, from the states before group g on
pub data_since : (f : List (List ℕ)) (g v : ℕ) → g ≤ v → 4 * g ≤ length f
    → four_segments (levels f) (4 * v) ≡ four_segments (levels_since g (states (take (4 * g) f)) f) (4 * (v - g))
unfolding levels_since
data_since f g v l h = ap₂ four_segments (levels_from f g h) (omega (arith, l)) ∙ four_behind (levels (take (4 * g) f))
    (levels_of (4 * g % 312) (states (take (4 * g) f)) (drop (828 * g) (whole_groups f))) (4 * g) (4 * (v - g))
    (omega (arith, length-levels (take (4 * g) f), length-take-le (4 * g) f h))

-- packets x to x + 3 behind a mark in two streams, under an order at packet y behind it
pub record AreSame (a b t : List (List ℕ)) (x y : ℕ) : Type 0 where
  pub first : length a % 624 ≡ 0
  pub second : length b % 624 ≡ 0
  pub groups : length t % 4 ≡ 0
  pub flushed : 52 ≤ y
  pub order : y % 4 ≡ 0
  pub later : y ≤ x
  pub group : x % 4 ≡ 0
  pub inside : x + 4 ≤ length t

pub data_same : (a b t : List (List ℕ)) (x y : ℕ) (q : List ℕ) → AreSame a b t x y
    → q ≡ states (take (length b + y) (b ++ t))
    → four_segments (levels_since ((length a + y) / 4) q (a ++ t)) (4 * ((length a + x) / 4 - (length a + y) / 4))
    ≡ four_segments (levels (b ++ t)) (length b + x)
data_same a b t x y q h e =
    let h1 = h.first in let h2 = h.second in let h3 = h.order in let h4 = h.later in let h5 = h.group in let h6 =
    h.inside in
    let ga : 4 * ((length a + y) / 4) ≡ length a + y = omega (arith, h1, h3) in
    let gb : 4 * ((length b + y) / 4) ≡ length b + y = omega (arith, h2, h3) in
    let na : 4 * ((length a + x) / 4 - (length a + y) / 4) ≡ x - y = omega (arith, h1, h3, h4, h5) in
    let vb : 4 * ((length b + x) / 4) ≡ length b + x = omega (arith, h2, h5) in
    grind (arith, levels_mark) ∙ ap (λ p. four_segments (levels_since ((length b + y) / 4) p (b ++ t))
    (4 * ((length b + x) / 4 - (length b + y) / 4))) (e ∙ ap (λ k. states (take k (b ++ t))) (sym gb))
    ∙ sym (grind (arith, data_since, length-append)) ∙ ap (four_segments (levels (b ++ t))) vb

-- a front in two parts
pub take_parts : {A : Type 0} (m k : ℕ) (xs : List A) → take (m + k) xs ≡ take m xs ++ take k (drop m xs)
take_parts m k xs = sym (take-append-drop m (take (m + k) xs))
    ∙ ap₂ ◌++◌ (take-take m (m + k) xs (omega arith)) (drop-take m k xs)
