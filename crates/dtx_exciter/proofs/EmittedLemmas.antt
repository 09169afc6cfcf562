-- All that packets give, one packet further, and the stretch of a feed's segments, one group further.
use Rattle.std.proofs.Common.{◌≡◌, ℕ, ℤ, ◌+◌, ◌-◌, ◌*◌, ◌/◌, ◌≤◌, List, [], ◌∷◌, ◌++◌, length, take, drop, sym, ap, ap₂}
use Rattle.std.proofs.Common.{◌∙◌, arith}
use Rattle.std.specs.List.{range_with_len, flat_map}
use Rattle.std.proofs.lemmas.Bool.{cases_lt, cond-true, cond-false, eq-eqb, ne_eqb}
use Rattle.std.proofs.lemmas.List.{append-nil, append_assoc, length-append, length-drop, length_push, length-take-le}
use Rattle.std.proofs.lemmas.List.{take-append-le, take_all, take-take, drop_at, drop-append-le}
use Rattle.std.proofs.lemmas.Grind.{flat_map-append}
use Rattle.std.proofs.Math.Seq.{take-append-add}
use Rattle.dtx_lists.proofs.Range.{range_with_len-parts}
use Rattle.dtx_coder.specs.Stream.{levels, four_segments, sync_before, group_segments, a53}
use Rattle.dtx_coder.proofs.CountsLemmas.{length-a53}
use Rattle.dtx_lists.proofs.RangeMoved.{flat_map-range_same}
use Rattle.dtx_coder.proofs.StreamLemmas.{a53_from, a53_whole}
use Rattle.dtx_exciter.specs.Emission.{last_segments, emission}
use Rattle.dtx_exciter.specs.Lockstep.{segment_place, stretch}
use Rattle.dtx_exciter.specs.Stretch.{emission_behind}
use Rattle.dtx_exciter.proofs.RangesLemmas.{flat_map-range_moved}

-- ---- all that packets give

-- the front that ends with packet i behind the first ones
pub take_behind : (l r : List (List ℕ)) (i n : ℕ) → n ≡ length l + i → take n (l ++ r) ≡ l ++ take i r
take_behind l r i n e = ap (λ k. take k (l ++ r)) e ∙ take-append-add l r i

-- what is given up to packet n of these
front_same : (a d : ℕ) (l r : List (List ℕ)) (n : ℕ) → n ≤ length l
    → flat_map (λ i. last_segments a d (take (i + 1) (l ++ r))) (range_with_len 0 n)
    ≡ flat_map (λ i. last_segments a d (take (i + 1) l)) (range_with_len 0 n)
front_same a d l r n h = grind (arith, flat_map-range_same, take-append-le)

pub emission_more : (a d : ℕ) (l r : List (List ℕ)) → emission a d (l ++ r) ≡ emission a d l ++ emission_behind a d l r
unfolding emission emission_behind
emission_more a d l r =
    let f : ℕ → List (List ℤ) = λ i. last_segments a d (take (i + 1) (l ++ r)) in
    ap (λ n. flat_map f (range_with_len 0 n)) (length-append l r) ∙
    grind (arith, range_with_len-parts, flat_map-append, front_same, flat_map-range_moved, take_behind)

pub emission_push : (a d : ℕ) (l : List (List ℕ)) (p : List ℕ)
    → emission a d (l ++ p ∷ []) ≡ emission a d l ++ last_segments a d (l ++ p ∷ [])
unfolding emission
emission_push a d l p =
    let f : ℕ → List (List ℤ) = λ i. last_segments a d (take (i + 1) (l ++ p ∷ [])) in
    ap (λ n. flat_map f (range_with_len 0 n)) (length_push l p) ∙ ap (flat_map f) (range_with_len-parts 0 (length l) 1)
    ∙ flat_map-append f (range_with_len 0 (length l)) (range_with_len (0 + length l) 1)
    ∙ ap₂ ◌++◌ (front_same a d l (p ∷ []) (length l) (omega arith)) (grind (arith, append-nil, take_all, length_push))

-- ---- the stretch

-- one group more
a53_step : (f : List (List ℕ)) (v : ℕ) → 4 * v + 4 ≤ length f
    → a53 (take (4 * v + 4) f) ≡ a53 (take (4 * v) f) ++ group_segments (take (4 * v + 4) f) v
a53_step f v l =
    let long : length (take (4 * v + 4) f) ≡ 4 * v + 4 = length-take-le (4 * v + 4) f l in
    let one : length (take (4 * v + 4) f) / 4 - v ≡ 1 = omega (arith, long) in
    a53_from (take (4 * v + 4) f) v (omega (arith, long))
    ∙ ap₂ (λ x n. a53 x ++ flat_map (group_segments (take (4 * v + 4) f)) (range_with_len v n))
    (take-take (4 * v) (4 * v + 4) f (omega arith)) one
    ∙ ap (λ x. a53 (take (4 * v) f) ++ x) (append-nil (group_segments (take (4 * v + 4) f) v))

pub length-front : (f : List (List ℕ)) (v : ℕ) → 4 * v ≤ length f
    → length (a53 (take (4 * v) f)) ≡ 4 * v + (v + 77) / 78
length-front f v l = length-a53 (take (4 * v) f) ∙ omega (arith, length-take-le (4 * v) f l)

-- the first group's data segments
pub stretch_first : (f : List (List ℕ)) (v : ℕ) → 4 * v + 4 ≤ length f
    → stretch f (4 * v) (4 * v + 4) ≡ four_segments (levels (take (4 * v + 4) f)) (4 * v)
unfolding stretch group_segments sync_before
stretch_first f v l =
    let front : List (List ℤ) = a53 (take (4 * v) f) in
    let sync : List (List ℤ) = sync_before (take (4 * v + 4) f) v in
    let four : List (List ℤ) = four_segments (levels (take (4 * v + 4) f)) (4 * v) in
    ap (drop (segment_place (4 * v))) (a53_step f v l ∙ sym (append_assoc front sync four))
    ∙ drop_at (front ++ sync) four (segment_place (4 * v))
    (grind (arith, length-append, length-front, cases_lt, cond-false, ne_eqb, cond-true, eq-eqb))

-- one group more
pub stretch_next : (f : List (List ℕ)) (k v : ℕ) → 4 * v + 4 ≤ length f → k + 4 ≤ 4 * v
    → stretch f k (4 * v + 4) ≡ stretch f k (4 * v) ++ group_segments (take (4 * v + 4) f) v
unfolding stretch
stretch_next f k v l h = grind (arith, a53_step, drop-append-le, length-front)

-- how many segments up to a group's last one
pub length-stretch : (f : List (List ℕ)) (k v : ℕ) → 4 * v + 4 ≤ length f
    → length (stretch f k (4 * v + 4)) ≡ segment_place (4 * v) + 4 - segment_place k
unfolding stretch
length-stretch f k v l = ap (λ n. length (drop (segment_place k) (a53 (take n f)))) (omega arith)
    ∙ length-drop (segment_place k) (a53 (take (4 * (v + 1)) f))
    ∙ ap (λ (n : ℕ). n - segment_place k) (length-front f (v + 1) (omega (arith, l)) ∙ omega arith)

-- packets behind the last whole group add nothing
pub stretch_whole : (f : List (List ℕ)) (k end w : ℕ) → end ≤ length f → w ≡ 4 * (end / 4)
    → stretch f k w ≡ stretch f k end
unfolding stretch
stretch_whole f k end w l e = grind (arith, a53_whole, length-take-le, take-take)
