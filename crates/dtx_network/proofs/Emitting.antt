-- A transmitter of a network emits exactly.
use Rattle.std.proofs.Common.{◌≡◌, ◌⊎◌, inl, inr, ℕ, ℤ, ◌+◌, ◌-◌, ◌*◌, ◌/◌, ◌%◌, ◌<◌, ◌≤◌, All, true, Some, List, ◌∷◌}
use Rattle.std.proofs.Common.{◌++◌, length, map, refl, sym, ap, subst, ◌∙◌, arith, pos, ◌-ℤ◌, ◌*ℤ◌, slice_range, eq-eqb}
use Rattle.std.proofs.Common.{length-append}
use Rattle.std.specs.List.{Contains}
use Rattle.std.proofs.lemmas.Bool.{cond-true, and_from}
use Rattle.std.proofs.lemmas.List.Elements.{All-append, All-weaker, All-contains, Contains-append_cases}
use Rattle.dtx_clock.specs.Clock.{stamp_of, grains_of, DifferBy}
use Rattle.dtx_clock.proofs.MomentsLemmas.{moments_differ}
use Rattle.dtx_plan.specs.declared.plan.Plan.{Plan}
use Rattle.dtx_plan.specs.declared.transmitter.Transmitter.{Transmitter}
use Rattle.dtx_ops.specs.declared.fields.Ops.{Ops}
use Rattle.dtx_adapter.specs.Feed.{paging_at, is_listed, feed}
use Rattle.dtx_exciter.specs.Order.{counting_order}
use Rattle.dtx_exciter.specs.Pages.{lists}
use Rattle.dtx_exciter.specs.Packets.{readings}
use Rattle.dtx_exciter.specs.Emission.{emission}
use Rattle.dtx_exciter.specs.Lockstep.{IsFeed, IsStretch, locked_from, stretch}
use Rattle.dtx_exciter.specs.Log.{Line, preset, life_lines, log, restarted_lines, restarting_lines, emission_over}
use Rattle.dtx_exciter.specs.Stretch.{emission_behind, lines_behind, before_stretch, stretch_lines, IsApart}
use Rattle.dtx_exciter.proofs.InLivesLemmas.{stretch_segments, stretch_log}
use Rattle.dtx_exciter.proofs.LockstepIsLemmas.{lockstep_is, lockstep_on, length-before}
use Rattle.dtx_network.specs.Plans.{IsPlan, IsStream, IsListed, IsInTime}
use Rattle.dtx_network.specs.Orders.{has_order, has_listing, orders, moment_at, preset_at, presets}
use Rattle.dtx_network.specs.Headline.{IsFed, IsFirstListing, stretch_of, segment_of, line_end, Around, around, Emits}
use Rattle.dtx_network.proofs.Orders.{order_some, order_says}
use Rattle.dtx_network.proofs.Listings.{lists_is, listing_is, listing_orders, place_of, feed_locks}
use Rattle.dtx_network.proofs.Stretches.{lines_are, stretch_is}
use Rattle.dtx_network.proofs.Segs.{life_up, behind_down, restarted_up, restarting_down}

-- ---- a life that is given a stretch of any feed that the exciter locks to

-- all that stands before the stretch, and behind it
abbrev all_before : ℕ → ℕ → List (List ℕ) → List (List ℕ) → List (List (List ℕ)) → ℕ → ℕ → List (List ℤ)
all_before a d earlier feed xs mark k = emission_over a d xs ++ before_stretch a d earlier feed mark k

abbrev lines_before : ℕ → ℕ → List (List ℕ) → List (List ℕ) → List (List (List ℕ)) → ℕ → ℕ → List Line
lines_before a d earlier feed xs mark k = restarted_lines a d 0 xs
    ++ life_lines a d (0 + length (emission_over a d xs)) (earlier ++ slice_range feed mark (k + 3))

abbrev lines_after : ℕ → ℕ → List (List ℕ) → List (List ℕ) → List (List ℕ) → List (List (List ℕ)) → List (List (List ℕ))
    → ℕ → ℕ → List Line
lines_after a d earlier feed later xs ys mark end =
    lines_behind a d (0 + length (emission_over a d xs)) (earlier ++ slice_range feed mark end) later
    ++ restarting_lines a d (0 + length (emission_over a d xs) + length
    (emission a d (earlier ++ (slice_range feed mark end ++ later)))) ys

earlier_lines : (a d : ℕ) (earlier feed : List (List ℕ)) (xs : List (List (List ℕ))) (mark k : ℕ)
    → All (λ line. line_end line ≤ length (all_before a d earlier feed xs mark k))
    (lines_before a d earlier feed xs mark k)
earlier_lines a d earlier feed xs mark k =
    let n : ℕ = 0 + length (emission_over a d xs) in
    let life : List (List ℕ) = earlier ++ slice_range feed mark (k + 3) in
    let all : length (all_before a d earlier feed xs mark k)
    ≡ length (emission_over a d xs) + length (before_stretch a d earlier feed mark k) =
    length-append (emission_over a d xs) (before_stretch a d earlier feed mark k) in
    let own = length-before a d feed earlier mark k in
    All-append (λ line. line_end line ≤ length (all_before a d earlier feed xs mark k)) (restarted_lines a d 0 xs)
    (life_lines a d n life) (grind (arith, All-weaker, restarted_up)) (grind (arith, All-weaker, life_up))

later_lines : (a d : ℕ) (z : ℤ) (earlier feed later : List (List ℕ)) (xs ys : List (List (List ℕ))) (mark end k : ℕ)
    → IsFeed a d z feed → IsStretch a feed (locked_from earlier mark) mark end k
    → All (λ line. length (all_before a d earlier feed xs mark k) + length (stretch feed k end) ≤ segment_of line)
    (lines_after a d earlier feed later xs ys mark end)
later_lines a d z earlier feed later xs ys mark end k f s =
    let n : ℕ = 0 + length (emission_over a d xs) in
    let front : List (List ℕ) = earlier ++ slice_range feed mark end in
    let life : List (List ℕ) = earlier ++ (slice_range feed mark end ++ later) in
    let all : length (all_before a d earlier feed xs mark k)
    ≡ length (emission_over a d xs) + length (before_stretch a d earlier feed mark k) =
    length-append (emission_over a d xs) (before_stretch a d earlier feed mark k) in
    let given_front : length (emission a d front)
    ≡ length (before_stretch a d earlier feed mark k) + length (stretch feed k end) =
    ap (λ (x : List (List ℤ)). length x) (lockstep_is a d z feed earlier mark end k f s)
    ∙ length-append (before_stretch a d earlier feed mark k) (stretch feed k end) in
    let given_all : length (emission a d life) ≡ length (before_stretch a d earlier feed mark k) +
    (length (stretch feed k end) + length (emission_behind a d front later)) =
    ap (λ (x : List (List ℤ)). length x) (lockstep_on a d z feed earlier later mark end k f s)
    ∙ length-append (before_stretch a d earlier feed mark k) (stretch feed k end ++ emission_behind a d front later)
    ∙ ap (λ (m : ℕ). length (before_stretch a d earlier feed mark k) + m)
    (length-append (stretch feed k end) (emission_behind a d front later)) in
    All-append (λ line. length (all_before a d earlier feed xs mark k) + length (stretch feed k end) ≤ segment_of line)
    (lines_behind a d n front later) (restarting_lines a d (n + length (emission a d life)) ys)
    (grind (arith, All-weaker, behind_down)) (grind (arith, All-weaker, restarting_down))

-- ---- the feed of a plan

-- the order of the group of a listing lists the transmitter
listing_order : (plan : Plan) (stream : List (List ℕ)) (t : Transmitter) (k : ℕ) → IsPlan plan → IsStream stream
    → IsListed plan t → 52 ≤ k → k % 4 ≡ 0 → has_listing t.address (feed plan stream) k ≡ true
    → (ops : Ops) × (counting_order (readings (feed plan stream)) k ≡ Some ops) × (lists t.address ops ≡ true)
listing_order plan stream t k p u listed far group listing =
    let place = place_of plan t listed in
    let orders : has_order (feed plan stream) k ≡ true = listing_orders t.address (feed plan stream) k listing in
    let order = order_some plan stream k p u far group orders in
    let own : is_listed (paging_at plan stream (k / 4)) place.0 ≡ true = sym (grind arith)
    ∙ sym (listing_is plan stream t place.0 k p u place.1 group) ∙ listing in
    (grind (arith, lists_is, order_says))

pub stretch_from : (plan : Plan) (stream : List (List ℕ)) (t : Transmitter) (earlier : List (List ℕ)) (mark end k : ℕ)
    → IsPlan plan → IsStream stream → IsListed plan t → mark % 624 ≡ 0 → end ≤ length (feed plan stream)
    → IsFirstListing t.address (feed plan stream) (locked_from earlier mark) end k
    → IsStretch t.address (feed plan stream) (locked_from earlier mark) mark end k
stretch_from plan stream t earlier mark end k p u listed m l first = grind (arith, listing_order)

emits_at : (plan : Plan) (stream : List (List ℕ)) (t : Transmitter) (earlier later : List (List ℕ))
    (xs ys : List (List (List ℕ))) (mark n k : ℕ)
    → IsPlan plan → IsStream stream → IsListed plan t → IsInTime plan t → mark % 624 ≡ 0
    → mark + n ≤ length (feed plan stream)
    → IsFirstListing t.address (feed plan stream) (locked_from earlier mark) (mark + n) k
    → Emits plan t (feed plan stream) mark k (mark + n)
    (record { lives_before = xs; before = earlier; behind = later; lives_behind = ys })
    (emission_over t.address t.delay (xs ++ (earlier
    ++ (slice_range (feed plan stream) mark (mark + n) ++ later)) ∷ ys))
    (log t.address t.delay 0 (xs ++ (earlier ++ (slice_range (feed plan stream) mark (mark + n) ++ later)) ∷ ys))
emits_at plan stream t earlier later xs ys mark n k p u listed time m l first =
    let a = t.address in
    let d = t.delay in
    let fed : List (List ℕ) = feed plan stream in
    let end : ℕ = mark + n in
    let locks : IsFeed a d t.offset fed = feed_locks plan stream t p u listed time in
    let s : IsStretch a fed (locked_from earlier mark) mark end k =
    stretch_from plan stream t earlier mark end k p u listed m l first in
    let same : stretch_of fed k end ≡ stretch fed k end = stretch_is fed k end first.whole l in
    let far = first.behind in
    let before : List (List ℤ) = all_before a d earlier fed xs mark k in
    let after : List (List ℤ) = emission_behind a d (earlier ++ slice_range fed mark end) later
    ++ emission_over a d ys in
    let place : 0 + length (emission_over a d xs) + length (before_stretch a d earlier fed mark k) ≡ length before =
    omega (arith, length-append (emission_over a d xs) (before_stretch a d earlier fed mark k)) in
    let presets_are : stretch_lines t.offset (0 + length (emission_over a d xs) + length
    (before_stretch a d earlier fed mark k)) fed k end ≡ presets plan t.offset (length before) fed k end =
    ap (λ (r : ℕ). stretch_lines t.offset r fed k end) place
    ∙ lines_are plan stream t.offset (length before) k end p u (omega (arith, far)) in
    let none : 0 + length (emission_over a d xs) ≡ length (emission_over a d xs) = omega arith in
    let life : List (List ℕ) = earlier ++ (slice_range fed mark end ++ later) in
    record {
      before = before;
      after = after;
      before_is = refl;
      after_is = refl;
      earlier_is = ap (λ (r : ℕ). restarted_lines a d 0 xs
          ++ life_lines a d r (earlier ++ slice_range fed mark (k + 3))) none;
      later_is = ap (λ (r : ℕ). lines_behind a d r (earlier ++ slice_range fed mark end) later
          ++ restarting_lines a d (r + length (emission a d life)) ys) none;
      symbols = stretch_segments a d t.offset fed earlier later xs ys mark end k locks s
          ∙ ap (λ x. before ++ (x ++ after)) (sym same);
      earlier = lines_before a d earlier fed xs mark k;
      later = lines_after a d earlier fed later xs ys mark end;
      log = stretch_log a d 0 t.offset fed earlier later xs ys mark end k locks s
          ∙ ap (λ x. lines_before a d earlier fed xs mark k
          ++ (x ++ lines_after a d earlier fed later xs ys mark end)) presets_are;
      up_to = earlier_lines a d earlier fed xs mark k;
      behind = subst (λ x. All (λ line. length before + length x ≤ segment_of line)
          (lines_after a d earlier fed later xs ys mark end)) (sym same)
          (later_lines a d t.offset earlier fed later xs ys mark end k locks s);
    }

pub emits : (plan : Plan) (stream : List (List ℕ)) (t : Transmitter) (xs ys : List (List (List ℕ)))
    (life : List (List ℕ)) (mark n k : ℕ)
    → IsPlan plan → IsStream stream → IsListed plan t → IsInTime plan t → (fed : IsFed (feed plan stream) life mark n)
    → IsFirstListing t.address (feed plan stream) (locked_from fed.earlier mark) (mark + n) k
    → Emits plan t (feed plan stream) mark k (mark + n) (around xs fed ys)
    (emission_over t.address t.delay (xs ++ life ∷ ys)) (log t.address t.delay 0 (xs ++ life ∷ ys))
emits plan stream t xs ys life mark n k p u listed time fed first =
    subst (λ x. Emits plan t (feed plan stream) mark k (mark + n)
    (record { lives_before = xs; before = fed.earlier; behind = fed.later; lives_behind = ys })
    (emission_over t.address t.delay (xs ++ x ∷ ys)) (log t.address t.delay 0 (xs ++ x ∷ ys))) (sym fed.holds)
    (emits_at plan stream t fed.earlier fed.later xs ys mark n k p u listed time fed.is_mark fed.inside first)

-- ---- its lines

-- the first of the stretch
pub first_is : (plan : Plan) (offset : ℤ) (s address : ℕ) (feed : List (List ℕ)) (z end k : ℕ)
    → IsFirstListing address feed z end k → presets plan offset s feed k end
    ≡ preset s (k / 624) (k % 624) (moment_at plan offset k).tick (moment_at plan offset k).grain ∷ map
    (preset_at plan offset s k) (orders feed (k + 1) end)
unfolding presets orders
first_is plan offset s address feed z end k first = grind (arith, cond-true, and_from, eq-eqb, listing_orders)

-- no other line speaks of anything within it
pub no_other : (plan : Plan) (t : Transmitter) (feed : List (List ℕ)) (mark k end : ℕ) (a : Around)
    (segments : List (List ℤ)) (lines : List Line) (line : Line)
    → (e : Emits plan t feed mark k end a segments lines) → Contains lines line → length e.before < line_end line
    → segment_of line < length e.before + length (stretch_of feed k end)
    → Contains (presets plan t.offset (length e.before) feed k end) line
no_other plan t feed mark k end a segments lines line e c low high =
    by_part (Contains-append_cases e.earlier (own ++ e.later) line (subst (λ x. Contains x line) e.log c))
  where
    own : List Line
    own = presets plan t.offset (length e.before) feed k end

    by_own : Contains own line ⊎ Contains e.later line → Contains own line
    by_own (inl c) = c
    by_own (inr c) = grind (arith, All-contains)

    by_part : Contains e.earlier line ⊎ Contains (own ++ e.later) line → Contains own line
    by_part (inl c) = grind (arith, All-contains)
    by_part (inr c) = by_own (Contains-append_cases own e.later line c)

-- ---- two transmitters

pub apart : (plan : Plan) (t u : Transmitter) (s r k l g : ℕ)
    → IsApart (t.offset -ℤ u.offset) (preset_at plan t.offset s k g) (preset_at plan u.offset r l g)
apart plan t u s r k l g =
    let x : ℕ = grains_of (stamp_of plan.start (g / 624)) plan.max_delay t.offset (g % 624) in
    let y : ℕ = grains_of (stamp_of plan.start (g / 624)) plan.max_delay u.offset (g % 624) in (
      refl,
      refl,
      subst (λ (n : ℕ). DifferBy n (y / 1539 * 1539 + y % 1539) ((t.offset -ℤ u.offset) *ℤ pos 1539)) (omega arith)
          (subst (λ (n : ℕ). DifferBy x n ((t.offset -ℤ u.offset) *ℤ pos 1539)) (omega arith)
          (moments_differ (stamp_of plan.start (g / 624)) plan.max_delay (g % 624) t.offset u.offset)),
    )
