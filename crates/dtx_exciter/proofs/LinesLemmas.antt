-- The lines of a stretch of a feed.
use Rattle.std.proofs.Common.{◌≡◌, ◌≢◌, ℕ, ℤ, ◌+◌, ◌-◌, ◌*◌, ◌/◌, ◌%◌, ◌<◌, ◌≤◌, ◌⊎◌, ◌==◌, true, Option, Some, None}
use Rattle.std.proofs.Common.{option_map, Result, Ok, Err, List, [], ◌∷◌, ◌++◌, length, take, drop, map, refl, sym, ap}
use Rattle.std.proofs.Common.{ap₂, ◌∙◌, arith, inl, inr}
use Rattle.std.specs.Prelude.{is_ok, slice_range}
use Rattle.std.specs.List.{range_with_len, flat_map, filter_map}
use Rattle.std.proofs.lemmas.Bool.{cond-true, cond-false, eq-eqb, ne_eqb, cases_eq}
use Rattle.std.proofs.lemmas.Grind.{flat_map-append}
use Rattle.std.proofs.lemmas.List.{append_assoc, length-append, length-drop, length-take-le, take-append-le, take-take}
use Rattle.dtx_lists.proofs.Range.{range_with_len-parts}
use Rattle.dtx_lists.proofs.RangeMoved.{flat_map-range_same}
use Rattle.dtx_ops.specs.declared.fields.Ops.{Ops}
use Rattle.dtx_exciter.specs.declared.answers.Why.{Why}
use Rattle.dtx_exciter.specs.Order.{Order, counting_order, placed, orders}
use Rattle.dtx_clock.specs.Clock.{moment_of}
use Rattle.dtx_exciter.specs.Told.{told_by, told_at}
use Rattle.dtx_cadence.specs.Cadence.{IsInStep}
use Rattle.dtx_exciter.specs.Packets.{syncs, readings, last_answer}
use Rattle.dtx_exciter.specs.Emission.{last_segments, emission}
use Rattle.dtx_exciter.specs.Lockstep.{IsFeed, locked_from, IsStretch, segment_place, stretch}
use Rattle.dtx_exciter.specs.Log.{Line, preset, line_of, life_lines}
use Rattle.dtx_exciter.specs.Stretch.{lines_behind, before_stretch, order_moment, preset_line, orders_in, stretch_lines}
use Rattle.dtx_exciter.proofs.EmittedLemmas.{take_behind, length-stretch}
use Rattle.dtx_exciter.proofs.FollowedLemmas.{after, Follows, told_is, told_none}
use Rattle.dtx_exciter.proofs.ForceLemmas.{counted_off}
use Rattle.dtx_exciter.proofs.InLifeLemmas.{life, length-life, Marks, IsGroup, InStep, in_step}
use Rattle.dtx_exciter.proofs.ListedLemmas.{IsServed, served_by_feed}
use Rattle.dtx_exciter.proofs.LockstepIsLemmas.{emitted_more, before_first, emits, Within, within, before_is}
use Rattle.dtx_exciter.proofs.LockedLemmas.{IsLocked, locked_life, locked_stretch, locked_parts, stretch_locked}
use Rattle.dtx_exciter.proofs.LockedLemmas.{before_locked}
use Rattle.dtx_exciter.proofs.RangesLemmas.{listed, flat_map-range_moved, flat_map-range_picked}
use Rattle.dtx_exciter.proofs.SinceMarkLemmas.{take_parts}
use Rattle.dtx_exciter.proofs.UnderLemmas.{length-said}

-- ---- the lines of any packets, some packets further

-- the line of the last packet of some
abbrev line_between : ℕ → ℕ → ℕ → List (List ℕ) → List (List ℕ) → List Line
line_between a d n before now = line_of (n + length (emission a d before)) (length (last_segments a d now))
    (last_answer a d now)

pub lines_more : (a d n : ℕ) (l r : List (List ℕ))
    → life_lines a d n (l ++ r) ≡ life_lines a d n l ++ lines_behind a d n l r
unfolding life_lines lines_behind
lines_more a d n l r =
    let f : ℕ → List Line = λ i. line_between a d n (take i (l ++ r)) (take (i + 1) (l ++ r)) in
    ap (λ k. flat_map f (range_with_len 0 k)) (length-append l r)
    ∙ ap (flat_map f) (range_with_len-parts 0 (length l) (length r)) ∙
    grind (arith, flat_map-append, flat_map-range_same, take-append-le, flat_map-range_moved, take_behind)

-- ---- the line at a group

-- under the group's own order
told_own : (z : ℤ) (i n m : ℕ) (order : Order) (r : Result ℕ (Option Why)) → order.place ≡ i → is_ok r ≡ true
    → line_of n m (told_by i order z r)
    ≡ preset (n + m - 4) order.ops.frame (i % 624) (moment_of order.ops.stamp order.ops.max_delay z (i % 624)).tick
    (moment_of order.ops.stamp order.ops.max_delay z (i % 624)).grain ∷ []
told_own z i n m order (Ok hold) e s = grind (arith, cond-true, eq-eqb)
told_own z i n m order (Err why) e s = cc

-- under an older one
told_old : (z : ℤ) (i n m : ℕ) (order : Order) (r : Result ℕ (Option Why)) → order.place ≢ i
    → line_of n m (told_by i order z r) ≡ []
told_old z i n m order (Ok hold) h = grind (arith, cond-false, ne_eqb)
told_old z i n m order (Err why) h = ap (line_of n m) (cond-false (order.place == i) _ _ (ne_eqb order.place i h))

-- the answer to the last packet of group x behind the mark
told_last : (a d : ℕ) (earlier feed : List (List ℕ)) (mark n x : ℕ) → (w : Follows earlier feed mark n)
    → mark + n ≤ length feed → x + 4 ≤ n → x % 4 ≡ 0 → last_answer a d (after earlier feed mark (x + 3 + 1))
    ≡ told_at a d (length w.base + x) (orders (readings (life w.base feed mark (x + 3 + 1))) (length w.base + x))
told_last a d earlier feed mark n x w h l g =
    let b = w.in_step in
    let long : length (readings (life w.base feed mark (x + 3 + 1))) ≡ length w.base + (x + 3 + 1) =
    length-said (life w.base feed mark (x + 3 + 1)) ∙ length-life w.base feed mark (x + 3 + 1) (omega (arith, h, l)) in
    told_is a d earlier feed mark n (x + 3) w h (omega arith) (omega (arith, l))
    ∙ cond-true (length (readings (life w.base feed mark (x + 3 + 1))) % 4 == 0) _ _ (grind (arith, eq-eqb, life))
    ∙ ap (λ k. told_at a d k (orders (readings (life w.base feed mark (x + 3 + 1))) k)) (omega (arith, long))

-- the order's line, or none
line_here : (a d : ℕ) (z : ℤ) (s m : ℕ) (base feed : List (List ℕ)) (mark n first x : ℕ) → Marks a d z base feed mark n
    → IsGroup a feed mark n first first → first ≤ x → x + 4 ≤ n → (o : Option Ops)
    → counting_order (readings feed) (mark + x) ≡ o
    → line_of s m (told_at a d (length base + x) (orders (readings (life base feed mark (x + 3 + 1)))
    (length base + x))) ≡ listed (option_map (λ (order : Order). preset (s + m - 4) order.ops.frame (order.place % 624)
    (order_moment z order).tick (order_moment z order).grain) (placed (mark + x) o))
line_here a d z s m base feed mark n first x k g l h o e =
    by_step o e (in_step a d z base feed mark n (x + 3 + 1) first (x - first) x g.order.0 k (omega (arith, h)) g.flushed
    (omega (arith, l)) (omega arith) g.order.1 g.order.2)
  where
    none_some : (ops : Ops) → ◌≡◌ {A = Option Ops} None (Some ops) → ⊥
    none_some ops q = cc

    same_place : (length base + x) % 624 ≡ (mark + x) % 624
    same_place = let k1 = k.at_mark in let k2 = k.at_other in omega (arith, k1, k2)

    by_own : (ops : Ops) → counting_order (readings feed) (mark + x) ≡ Some ops
        → (w : InStep a base feed mark (x + 3 + 1) first x) → (v : IsServed a d z (record {
          place = length base + w.group;
          ops = w.ops;
        } ∷ w.older))
        → line_of s m (told_at a d (length base + x) (record { place = length base + w.group; ops = w.ops } ∷ w.older))
        ≡ preset (s + m - 4) ops.frame ((mark + x) % 624) (moment_of ops.stamp ops.max_delay z ((mark + x) % 624)).tick
        (moment_of ops.stamp ops.max_delay z ((mark + x) % 624)).grain ∷ []
    by_own ops e w v = grind (arith, told_own)

    by_step : (o : Option Ops) → counting_order (readings feed) (mark + x) ≡ o
        → InStep a base feed mark (x + 3 + 1) first x → line_of s m (told_at a d (length base + x)
        (orders (readings (life base feed mark (x + 3 + 1))) (length base + x)))
        ≡ listed (option_map (λ (order : Order). preset (s + m - 4) order.ops.frame (order.place % 624)
        (order_moment z order).tick (order_moment z order).grain) (placed (mark + x) o))
    by_step (Some ops) e w = ap (λ r. line_of s m (told_at a d (length base + x) r)) w.in_life
        ∙ by_own ops e w (served_by_feed a d z feed (mark + w.group)
        (record { place = length base + w.group; ops = w.ops }) w.older k.feed_is w.its_own w.listed)
    by_step None e w = grind (arith, told_old)

-- ---- the line of each packet of the stretch

-- what the packet that ends four packets from packet g of the feed on is to be given
abbrev line_due : ℤ → ℕ → ℕ → List (List ℕ) → ℕ → List Line
line_due z s k feed g = listed (option_map (preset_line z s k) (placed g (counting_order (readings feed) g)))

-- how many segments there are before a group's data segments
seg_is : (a d n : ℕ) (z : ℤ) (earlier feed : List (List ℕ)) (mark m first x : ℕ) → (w : Follows earlier feed mark m)
    → Marks a d z w.base feed mark m → IsGroup a feed mark m first first → first ≤ x → x + 4 ≤ m → x % 4 ≡ 0
    → n + length (emission a d (after earlier feed mark (x + 3))) + length
    (last_segments a d (after earlier feed mark (x + 3 + 1))) - 4
    ≡ n + length (before_first a d earlier feed mark first) + (segment_place (mark + x) - segment_place (mark + first))
seg_is a d n z earlier feed mark m first x w k g l h y =
    let i = k.inside in let k1 = k.at_mark in let g1 = g.whole in
    let c : first + 4 + 4 * ((x - first) / 4) ≡ x + 3 + 1 = omega (arith, l, y, g1) in
    let v : mark + (first + 4 + 4 * ((x - first) / 4)) ≡ 4 * ((mark + x) / 4) + 4 = omega (arith, l, y, g1, k1) in
    let u : 4 * ((mark + x) / 4) ≡ mark + x = omega (arith, y, k1) in
    let more : segment_place (mark + first) ≤ segment_place (mark + x) = omega (arith, l) in
    seg (segment_place (mark + x)) (segment_place (mark + first)) n _ _ _ more
    (sym (length-append (emission a d (after earlier feed mark (x + 3)))
    (last_segments a d (after earlier feed mark (x + 3 + 1))))
    ∙ ap length (sym (emitted_more a d earlier feed mark (x + 3) (omega (arith, i, h)))
    ∙ ap (λ j. emission a d (after earlier feed mark j)) (sym c)
    ∙ emits a d z earlier feed mark m first ((x - first) / 4) w k g (omega (arith, l, h)))
    ∙ length-append (before_first a d earlier feed mark first)
    (stretch feed (mark + first) (mark + (first + 4 + 4 * ((x - first) / 4))))
    ∙ ap (λ (j : ℕ). length (before_first a d earlier feed mark first) + j) (grind (arith, length-stretch)))
  where
    seg : (p q n b e z : ℕ) → q ≤ p → e + z ≡ b + (p + 4 - q) → n + e + z - 4 ≡ n + b + (p - q)
    seg p q n b e z l h = omega (arith, l, h)

line_is : (a d n : ℕ) (z : ℤ) (earlier feed : List (List ℕ)) (mark m first i : ℕ) → (w : Follows earlier feed mark m)
    → Marks a d z w.base feed mark m → IsGroup a feed mark m first first → first + 3 + i < m
    → line_between a d n (after earlier feed mark (first + i + 3)) (after earlier feed mark (first + i + 3 + 1))
    ≡ line_due z (n + length (before_first a d earlier feed mark first)) (mark + first) feed (mark + (first + i))
line_is a d n z earlier feed mark m first i w k g l = by_place (cases_eq (i % 4) 0)
  where
    inside : mark + m ≤ length feed
    inside = k.inside

    whole : first % 4 ≡ 0
    whole = g.whole

    at_mark : mark % 624 ≡ 0
    at_mark = k.at_mark

    s : ℕ
    s = n + length (emission a d (after earlier feed mark (first + i + 3)))

    t : ℕ
    t = length (last_segments a d (after earlier feed mark (first + i + 3 + 1)))

    by_order : (o : Option Ops) → s + t - 4 ≡ n + length (before_first a d earlier feed mark first) +
        (segment_place (mark + (first + i)) - segment_place (mark + first))
        → listed (option_map (λ (order : Order). preset (s + t - 4) order.ops.frame (order.place % 624)
        (order_moment z order).tick (order_moment z order).grain) (placed (mark + (first + i)) o))
        ≡ listed (option_map (preset_line z (n + length (before_first a d earlier feed mark first)) (mark + first))
        (placed (mark + (first + i)) o))
    by_order None e = refl
    by_order (Some ops) e = grind arith

    by_place : (i % 4 ≡ 0) ⊎ (i % 4 ≢ 0)
        → line_between a d n (after earlier feed mark (first + i + 3)) (after earlier feed mark (first + i + 3 + 1))
        ≡ line_due z (n + length (before_first a d earlier feed mark first)) (mark + first) feed (mark + (first + i))
    by_place (inl q) = ap (line_of s t) (told_last a d earlier feed mark m (first + i) w inside (omega (arith, l))
        (omega (arith, whole, q)))
        ∙ line_here a d z s t w.base feed mark m first (first + i) k g (omega arith) (omega (arith, l))
        (counting_order (readings feed) (mark + (first + i))) refl
        ∙ by_order (counting_order (readings feed) (mark + (first + i)))
        (seg_is a d n z earlier feed mark m first (first + i) w k g (omega arith) (omega (arith, l))
        (omega (arith, whole, q)))
    by_place (inr q) = grind (arith, told_none, listed, before_first, counted_off)

-- ---- all of them

lines_from : (a d n : ℕ) (z : ℤ) (earlier feed : List (List ℕ)) (mark m first : ℕ) → (w : Follows earlier feed mark m)
    → Marks a d z w.base feed mark m → IsGroup a feed mark m first first → life_lines a d n (after earlier feed mark m)
    ≡ life_lines a d n (after earlier feed mark (first + 3))
    ++ map (preset_line z (n + length (before_first a d earlier feed mark first)) (mark + first))
    (filter_map (λ g. placed g (counting_order (readings feed) g)) (range_with_len (mark + first) (m - (first + 3))))
unfolding lines_behind
lines_from a d n z earlier feed mark m first w k g = ap (life_lines a d n) parts ∙ lines_more a d n l r
    ∙ ap (λ x. life_lines a d n l ++ x)
    (ap (λ c. flat_map (λ i. line_between a d n (l ++ take i r) (l ++ take (i + 1) r)) (range_with_len 0 c)) long
    ∙ flat_map-range_picked (λ i. line_between a d n (l ++ take i r) (l ++ take (i + 1) r))
    (λ g. placed g (counting_order (readings feed) g)) (preset_line z (n + length
    (before_first a d earlier feed mark first)) (mark + first)) 0 (mark + first) (m - (first + 3)) (λ i h.
    ap₂ (line_between a d n) (joined (0 + i) (first + i + 3) (omega arith) (omega (arith, h)))
    (joined (0 + i + 1) (first + i + 3 + 1) (omega arith) (omega (arith, h)))
    ∙ line_is a d n z earlier feed mark m first i w k g (omega (arith, h))
    ∙ ap (line_due z (n + length (before_first a d earlier feed mark first)) (mark + first) feed) (place mark first i)))
  where
    within : first + 4 ≤ m
    within = g.within

    inside : mark + m ≤ length feed
    inside = k.inside

    l : List (List ℕ)
    l = after earlier feed mark (first + 3)

    r : List (List ℕ)
    r = take (m - (first + 3)) (drop (first + 3) (drop mark feed))

    place : (m f i : ℕ) → m + (f + i) ≡ m + f + i
    place m f i = omega arith

    parts : after earlier feed mark m ≡ l ++ r
    parts =
        let e : m ≡ first + 3 + (m - (first + 3)) = omega (arith, within) in
        ap (λ x. earlier ++ x) (ap (λ j. take j (drop mark feed)) e
        ∙ take_parts (first + 3) (m - (first + 3)) (drop mark feed))
        ∙ sym (append_assoc earlier (take (first + 3) (drop mark feed)) r)

    long : length r ≡ m - (first + 3)
    long = length-take-le (m - (first + 3)) (drop (first + 3) (drop mark feed))
        (omega (arith, inside, within, length-drop (first + 3) (drop mark feed), length-drop mark feed))

    joined : (i j : ℕ) → j ≡ first + 3 + i → i ≤ m - (first + 3) → l ++ take i r ≡ after earlier feed mark j
    joined i j e h = grind (arith, append_assoc, take-take, take_parts)

-- where nothing was locked before the mark or a lock in step
lines_at : (a d n : ℕ) (z : ℤ) (feed earlier : List (List ℕ)) (mark end k : ℕ) → IsFeed a d z feed
    → IsStretch a feed mark mark end k → IsInStep (syncs earlier)
    → life_lines a d n (earlier ++ slice_range feed mark end)
    ≡ life_lines a d n (earlier ++ slice_range feed mark (k + 3))
    ++ stretch_lines z (n + length (before_stretch a d earlier feed mark k)) feed k end
unfolding stretch_lines orders_in
lines_at a d n z feed earlier mark end k f s r =
    let y = s.behind in let t = s.whole in
    let w : Within a d z earlier feed mark (end - mark) (k - mark) = within a d z feed earlier mark end k f s r in
    let e : k - mark + 3 ≡ k + 3 - mark = omega (arith, y) in
    let c : end - mark - (k - mark + 3) ≡ end - 3 - k = omega (arith, y, t) in
    lines_from a d n z earlier feed mark (end - mark) (k - mark) w.follows w.marks w.group
    ∙ ap₂ (λ x y. life_lines a d n (after earlier feed mark x) ++ y) e (grind (arith, before_first, before_is))

-- whatever was given before
pub lines_is : (a d n : ℕ) (z : ℤ) (feed earlier : List (List ℕ)) (mark end k : ℕ) → IsFeed a d z feed
    → IsStretch a feed (locked_from earlier mark) mark end k → life_lines a d n (earlier ++ slice_range feed mark end)
    ≡ life_lines a d n (earlier ++ slice_range feed mark (k + 3))
    ++ stretch_lines z (n + length (before_stretch a d earlier feed mark k)) feed k end
lines_is a d n z feed earlier mark end k f s =
    let w : IsLocked earlier feed mark (locked_from earlier mark) = locked_stretch a d z feed earlier mark end k f s in
    let y = s.behind in let t = s.whole in let b = w.behind in
    ap (life_lines a d n) (locked_parts earlier feed mark (locked_from earlier mark) end b (omega (arith, y, t)))
    ∙ lines_at a d n z feed (locked_life earlier feed mark (locked_from earlier mark)) (locked_from earlier mark) end k
    f (stretch_locked a feed earlier mark (locked_from earlier mark) end k s w) w.in_step
    ∙ ap₂ (λ x y. life_lines a d n x ++ stretch_lines z (n + length y) feed k end) (sym (grind (arith, locked_parts)))
    (before_locked a d earlier feed mark (locked_from earlier mark) k b (omega (arith, y)))

-- whatever is given then
pub lines_on : (a d n : ℕ) (z : ℤ) (feed earlier later : List (List ℕ)) (mark end k : ℕ) → IsFeed a d z feed
    → IsStretch a feed (locked_from earlier mark) mark end k
    → life_lines a d n (earlier ++ (slice_range feed mark end ++ later))
    ≡ life_lines a d n (earlier ++ slice_range feed mark (k + 3))
    ++ (stretch_lines z (n + length (before_stretch a d earlier feed mark k)) feed k end
    ++ lines_behind a d n (earlier ++ slice_range feed mark end) later)
lines_on a d n z feed earlier later mark end k f s = ap (life_lines a d n) (sym (grind (arith, append_assoc)))
    ∙ lines_more a d n (earlier ++ slice_range feed mark end) later
    ∙ ap (λ x. x ++ lines_behind a d n (earlier ++ slice_range feed mark end) later) (grind (arith, lines_is))
    ∙ append_assoc (life_lines a d n (earlier ++ slice_range feed mark (k + 3)))
    (stretch_lines z (n + length (before_stretch a d earlier feed mark k)) feed k end)
    (lines_behind a d n (earlier ++ slice_range feed mark end) later)
