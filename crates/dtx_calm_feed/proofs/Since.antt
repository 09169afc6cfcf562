-- The states and the segments since a group go on behind a later one.
use Rattle.std.proofs.Common.{◌≡◌, ℕ, ◌+◌, ◌-◌, ◌*◌, ◌/◌, ◌%◌, ◌<◌, ◌≤◌, List, ◌++◌, length, take, drop, sym, ap, ap₂}
use Rattle.std.proofs.Common.{◌∙◌, arith, slice_range, length-drop, length-take-le, take-append-drop}
use Rattle.std.proofs.lemmas.List.{drop-append-le}
use Rattle.dtx_lists.proofs.Range.{map-range_same}
use Rattle.dtx_trellis.specs.Groups.{levels_of, states_after}
use Rattle.dtx_trellis.proofs.JoinsLemmas.{levels_append}
use Rattle.dtx_trellis.specs.Trellis.{group_place}
use Rattle.dtx_coder.specs.Along.{levels_since, states_since}
use Rattle.dtx_coder.proofs.BytesLemmas.{length-whole, whole_append}
use Rattle.dtx_coder.specs.Stream.{whole_groups, segment, four_segments}
use Rattle.dtx_coder.proofs.LevelsLemmas.{length-levels_of}
use Rattle.dtx_coder.proofs.SegmentsLemmas.{four_behind}
use Rattle.dtx_exciter.specs.Emission.{segments_since}
use Rattle.dtx_exciter.proofs.GroupSentLemmas.{since_front}
use Rattle.dtx_exciter.proofs.SinceMarkLemmas.{levels_mark, take_parts}

-- ---- from group h on

-- the bytes since group g, up to group h
abbrev between : List (List ℕ) → ℕ → ℕ → List ℕ
between w g h = drop (828 * g) (whole_groups (take (4 * h) w))

bytes_on : (w : List (List ℕ)) (g h : ℕ) → g ≤ h → 4 * h ≤ length w
    → drop (828 * g) (whole_groups w) ≡ between w g h ++ drop (828 * h) (whole_groups w)
bytes_on w g h l m =
    let front : List (List ℕ) = take (4 * h) w in
    let long : length front ≡ 4 * h = length-take-le (4 * h) w m in
    let same : front ++ drop (4 * h) w ≡ w = take-append-drop (4 * h) w in
    grind (arith, whole_append) ∙ drop-append-le (828 * g) (whole_groups front) (drop (828 * h) (whole_groups w))
    (omega (arith, l, long, length-whole front))

length-between : (w : List (List ℕ)) (g h : ℕ) → g ≤ h → 4 * h ≤ length w → length (between w g h) ≡ 828 * (h - g)
length-between w g h l m = grind (arith, length-take-le, length-whole, length-drop)

levels_on : (w : List (List ℕ)) (g h : ℕ) (q : List ℕ) → g ≤ h → 4 * h ≤ length w → levels_since g q w
    ≡ levels_since g q (take (4 * h) w) ++ levels_since h (states_since g q (take (4 * h) w)) w
unfolding levels_since states_since group_place
levels_on w g h q l m = ap (levels_of (4 * g % 312) q) (bytes_on w g h l m)
    ∙ levels_append (4 * g % 312) (h - g) q (between w g h) (drop (828 * h) (whole_groups w)) (length-between w g h l m)
    ∙ ap (λ k. levels_of (4 * g % 312) q (between w g h)
    ++ levels_of k (states_after (4 * g % 312) q (between w g h)) (drop (828 * h) (whole_groups w))) (grind arith)

-- the data segments of group u, where the coders are preset with the states that they have
pub segments_on : (w : List (List ℕ)) (g h u : ℕ) (q : List ℕ) → g ≤ h → h ≤ u → 4 * h ≤ length w
    → segments_since g q w u ≡ segments_since h (states_since g q (take (4 * h) w)) w u
unfolding segments_since levels_since
segments_on w g h u q l k m =
    let front : List (List ℕ) = take (4 * h) w in
    ap₂ four_segments (levels_on w g h q l m) (omega (arith, l, k))
    ∙ four_behind (levels_since g q front) (levels_since h (states_since g q front) w) (4 * (h - g)) (4 * (u - h))
    (length-levels_of (4 * g % 312) q (between w g h) (h - g) (length-between w g h l m)
    ∙ (let e : 3312 * (h - g) ≡ 828 * (4 * (h - g)) = omega arith in e))

-- ---- packets behind, and packets before a mark

pub segments_front : (w r : List (List ℕ)) (n g u : ℕ) (q : List ℕ) → length w ≡ 4 * n → g ≤ u → u < n
    → segments_since g q (w ++ r) u ≡ segments_since g q w u
unfolding segments_since four_segments
segments_front w r n g u q e l m =
    map-range_same (segment (levels_since g q (w ++ r))) (segment (levels_since g q w)) (4 * (u - g)) 4
    (λ k a b. since_front w r n g k q e (omega (arith, l, m)) (omega (arith, l, m, b)))

segments_mark : (a s : List (List ℕ)) (y j : ℕ) (q : List ℕ) → length a % 624 ≡ 0 → length s % 4 ≡ 0 → 52 ≤ y
    → y % 4 ≡ 0 → y ≤ j → j % 4 ≡ 0
    → segments_since ((length a + y) / 4) q (a ++ s) ((length a + j) / 4) ≡ segments_since (y / 4) q s (j / 4)
unfolding segments_since
segments_mark a s y j q m w l e k f = grind (arith, levels_mark)

-- whole groups of a feed's packets l, from its mark x to n, where an order stands y packets behind the mark and a group
-- at j or further behind it
pub record IsPart (l : List (List ℕ)) (x n y j : ℕ) : Type 0 where
  pub at_mark : x % 624 ≡ 0
  pub inside : n ≤ length l
  pub whole : (n - x) % 4 ≡ 0
  pub flushed : 52 ≤ y
  pub order : y % 4 ≡ 0
  pub later : y ≤ j
  pub group : j % 4 ≡ 0
  pub within : x + j + 4 ≤ n

-- the same data segments as in all of the feed
pub segments_part : (l : List (List ℕ)) (x n y j : ℕ) (q : List ℕ) → IsPart l x n y j
    → segments_since (y / 4) q (slice_range l x n) (j / 4) ≡ segments_since ((x + y) / 4) q l ((x + j) / 4)
segments_part l x n y j q p =
    let a : List (List ℕ) = take x l in
    sym (ap (λ (k : ℕ). segments_since ((k + y) / 4) q (a ++ s) ((k + j) / 4)) (sym la)
    ∙ segments_mark a s y j q (omega (arith, la, p1)) (omega (arith, ls, p3)) p.flushed p.order p.later p.group)
    ∙ ap (λ z. segments_since ((x + y) / 4) q z ((x + j) / 4)) parts
    ∙ sym (segments_front (take n l) (drop n l) (n / 4) ((x + y) / 4) ((x + j) / 4) q (omega (arith, ln, p1, p3, p8))
    (omega (arith, p6)) (omega (arith, p1, p3, p7, p8)))
    ∙ ap (λ z. segments_since ((x + y) / 4) q z ((x + j) / 4)) (take-append-drop n l)
  where
    s : List (List ℕ)
    s = slice_range l x n

    p1 : x % 624 ≡ 0
    p1 = p.at_mark

    p2 : n ≤ length l
    p2 = p.inside

    p3 : (n - x) % 4 ≡ 0
    p3 = p.whole

    p6 : y ≤ j
    p6 = p.later

    p7 : j % 4 ≡ 0
    p7 = p.group

    p8 : x + j + 4 ≤ n
    p8 = p.within

    la : length (take x l) ≡ x
    la = length-take-le x l (omega (arith, p2, p8))

    ls : length (slice_range l x n) ≡ n - x
    ls = length-take-le (n - x) (drop x l) (omega (arith, p2, p8, length-drop x l))

    ln : length (take n l) ≡ n
    ln = length-take-le n l p2

    parts : take x l ++ slice_range l x n ≡ take n l
    parts = let e : x + (n - x) ≡ n = omega (arith, p8) in
        sym (take_parts x (n - x) l) ∙ ap (λ (k : ℕ). take k l) e

-- the same where other packets stand before the mark, in step with it
pub segments_held : (base l : List (List ℕ)) (x n y j : ℕ) (q : List ℕ) → length base % 624 ≡ 0 → IsPart l x n y j
    → segments_since ((length base + y) / 4) q (base ++ slice_range l x n) ((length base + j) / 4)
    ≡ segments_since ((x + y) / 4) q l ((x + j) / 4)
segments_held base l x n y j q m p = grind (arith, length-take-le, length-drop, segments_mark, segments_part)
