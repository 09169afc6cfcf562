-- The exciter in lockstep with a feed.
use Rattle.std.proofs.Common.{◌≡◌, ◌≢◌, ℕ, ℤ, zero, suc, ◌+◌, ◌-◌, ◌*◌, ◌/◌, ◌%◌, ◌<◌, ◌≤◌, Some, List, [], ◌∷◌, ◌++◌}
use Rattle.std.proofs.Common.{length, take, refl, sym, ap, ap₂, ◌∙◌, arith}
use Rattle.std.specs.Prelude.{slice_range}
use Rattle.std.proofs.lemmas.List.{append-nil, append_assoc, length-append}
use Rattle.dtx_coder.specs.Stream.{levels, four_segments}
use Rattle.dtx_exciter.specs.Order.{counting_order}
use Rattle.dtx_cadence.specs.Cadence.{IsInStep}
use Rattle.dtx_exciter.specs.Packets.{syncs, readings}
use Rattle.dtx_exciter.specs.Emission.{last_segments, given_under, emission}
use Rattle.dtx_exciter.specs.Lockstep.{IsFeed, locked_from, IsStretch, stretch}
use Rattle.dtx_exciter.specs.Stretch.{emission_behind, sync_behind, before_stretch}
use Rattle.dtx_exciter.proofs.ForceLemmas.{counted_behind, IsBehind}
use Rattle.dtx_exciter.proofs.InLifeLemmas.{life, Marks, IsGroup, given_next}
use Rattle.dtx_exciter.proofs.FirstGroupLemmas.{given_first}
use Rattle.dtx_exciter.proofs.FollowedLemmas.{after, after_more, Follows, follows, given_is, given_none}
use Rattle.dtx_exciter.proofs.LockedLemmas.{IsLocked, locked_life, locked_stretch, locked_parts, stretch_locked}
use Rattle.dtx_exciter.proofs.LockedLemmas.{before_locked}
use Rattle.dtx_exciter.proofs.EmittedLemmas.{emission_more, emission_push, stretch_first, stretch_next, stretch_whole}

-- ---- all that is given

pub emitted_more : (a d : ℕ) (earlier feed : List (List ℕ)) (mark j : ℕ) → mark + j < length feed
    → emission a d (after earlier feed mark (j + 1)) ≡ emission a d (after earlier feed mark j)
    ++ last_segments a d (after earlier feed mark (j + 1))
emitted_more a d earlier feed mark j l = grind (arith, after_more, emission_push, after)

emitted_same : (a d : ℕ) (earlier feed : List (List ℕ)) (mark n j k : ℕ) → (w : Follows earlier feed mark n)
    → mark + n ≤ length feed → j < n → j % 4 ≢ 3 → k ≡ j + 1
    → emission a d (after earlier feed mark k) ≡ emission a d (after earlier feed mark j)
emitted_same a d earlier feed mark n j k w h l m e = grind (arith, after, emitted_more, given_none, append-nil)

-- before the last packet of a group
emitted_within : (a d : ℕ) (earlier feed : List (List ℕ)) (mark n x : ℕ) → (w : Follows earlier feed mark n)
    → mark + n ≤ length feed → x + 4 ≤ n → x % 4 ≡ 0
    → emission a d (after earlier feed mark (x + 3)) ≡ emission a d (after earlier feed mark x)
emitted_within a d earlier feed mark n x w h l g =
    emitted_same a d earlier feed mark n (x + 2) (x + 3) w h (omega arith) (λ z. omega arith) (omega arith)
    ∙ emitted_same a d earlier feed mark n (x + 1) (x + 2) w h (omega arith) (λ z. omega arith) (omega arith)
    ∙ emitted_same a d earlier feed mark n x (x + 1) w h (omega arith) (λ z. omega arith) refl

-- a group further
emitted_group : (a d : ℕ) (earlier feed : List (List ℕ)) (mark n x : ℕ) → (w : Follows earlier feed mark n)
    → mark + n ≤ length feed → x + 4 ≤ n → x % 4 ≡ 0
    → emission a d (after earlier feed mark (x + 4)) ≡ emission a d (after earlier feed mark x)
    ++ given_under a d (Some (life w.base feed mark (x + 4)))
emitted_group a d earlier feed mark n x w h l g = ap (λ k. emission a d (after earlier feed mark k)) (omega arith)
    ∙ emitted_more a d earlier feed mark (x + 3) (omega (arith, h, l)) ∙ ap₂ ◌++◌ (grind (arith, emitted_within))
    (given_is a d earlier feed mark n (x + 3) w (omega (arith, l))
    ∙ ap (λ k. given_under a d (Some (life w.base feed mark k))) (sym (omega arith)))

-- all that is given before the first group's data segments
abbrev pub before_first : ℕ → ℕ → List (List ℕ) → List (List ℕ) → ℕ → ℕ → List (List ℤ)
before_first a d earlier feed mark first = emission a d (after earlier feed mark (first + 3))
    ++ sync_behind (last_segments a d (after earlier feed mark first)) (mark + first)

place_first : (mark first v : ℕ) → mark + first ≡ 4 * v → mark + (first + 4) ≡ 4 * v + 4
place_first mark first v e = omega (arith, e)

emits_all : (a d : ℕ) (z : ℤ) (earlier feed : List (List ℕ)) (mark n first c : ℕ) (before : List (List ℤ))
    → (w : Follows earlier feed mark n) → (m : Marks a d z w.base feed mark n) → IsGroup a feed mark n first first
    → emission a d (after earlier feed mark (first + 4)) ≡ before ++ stretch feed (mark + first) (mark + (first + 4))
    → first + 4 + 4 * c ≤ n → emission a d (after earlier feed mark (first + 4 + 4 * c)) ≡ before
    ++ stretch feed (mark + first) (mark + (first + 4 + 4 * c))
emits_all a d z earlier feed mark n first zero before w m g h l = grind (arith, after)
emits_all a d z earlier feed mark n first (suc c) before w m g h l =
    let x : ℕ = first + 4 + 4 * c in
    let e : first + 4 + 4 * suc c ≡ first + 4 + 4 * c + 4 = omega arith in
    let inside = m.inside in let m1 = m.at_mark in let g1 = g.whole in
    let v : mark + (first + 4 + 4 * c) ≡ 4 * ((mark + (first + 4 + 4 * c)) / 4) = omega (arith, m1, g1) in
    let u : 4 * ((mark + (first + 4 + 4 * c)) / 4) + 4 ≡ mark + (first + 4 + 4 * c + 4) = omega (arith, v) in
    let here : IsGroup a feed mark n first (first + 4 + 4 * c) = record {
      order = g.order;
      flushed = g.flushed;
      whole = g.whole;
      later = omega arith;
      group = omega (arith, g1);
      within = omega (arith, l);
    } in
    ap (λ k. emission a d (after earlier feed mark k)) e
    ∙ emitted_group a d earlier feed mark n (first + 4 + 4 * c) w inside (omega (arith, l)) (omega (arith, g1))
    ∙ ap₂ ◌++◌ (emits_all a d z earlier feed mark n first c before w m g h (omega (arith, l)))
    (given_next a d z w.base feed mark n first (first + 4 + 4 * c) m here (omega arith))
    ∙ grind (arith, append_assoc, stretch_next)

-- up to the end of any group of the stretch
pub emits : (a d : ℕ) (z : ℤ) (earlier feed : List (List ℕ)) (mark n first c : ℕ) → (w : Follows earlier feed mark n)
    → Marks a d z w.base feed mark n → IsGroup a feed mark n first first → first + 4 + 4 * c ≤ n
    → emission a d (after earlier feed mark (first + 4 + 4 * c)) ≡ before_first a d earlier feed mark first
    ++ stretch feed (mark + first) (mark + (first + 4 + 4 * c))
emits a d z earlier feed mark n first c w m g h =
    emits_all a d z earlier feed mark n first c (before_first a d earlier feed mark first) w m g begins h
  where
    inside : mark + n ≤ length feed
    inside = m.inside

    within : first + 4 ≤ n
    within = g.within

    place : mark + first ≡ 4 * ((mark + first) / 4)
    place = let m1 = m.at_mark in let g1 = g.whole in omega (arith, m1, g1)

    end : mark + (first + 4) ≡ 4 * ((mark + first) / 4) + 4
    end = place_first mark first ((mark + first) / 4) place

    sync : List (List ℤ)
    sync = sync_behind (given_under a d (Some (life w.base feed mark first))) (mark + first)

    same : given_under a d (Some (life w.base feed mark first)) ≡ last_segments a d (after earlier feed mark first)
    same =
        let e : first - 1 + 1 ≡ first = omega arith in
        ap (λ k. given_under a d (Some (life w.base feed mark k))) (sym e)
        ∙ sym (given_is a d earlier feed mark n (first - 1) w (omega (arith, within)))
        ∙ ap (λ k. last_segments a d (after earlier feed mark k)) e

    begins : emission a d (after earlier feed mark (first + 4)) ≡ before_first a d earlier feed mark first
        ++ stretch feed (mark + first) (mark + (first + 4))
    begins = emitted_group a d earlier feed mark n first w inside within g.whole
        ∙ ap₂ ◌++◌ (sym (emitted_within a d earlier feed mark n first w inside within g.whole))
        (given_first a d z w.base feed mark n first m g) ∙ sym (grind (arith, append_assoc, after, sync))
        ∙ ap₂ (λ x y. (emission a d (after earlier feed mark (first + 3)) ++ sync_behind x (mark + first)) ++ y) same
        (ap₂ (λ p q. four_segments (levels (take p feed)) q) end place
        ∙ sym (grind (arith, stretch_first, end, inside, within)) ∙ ap₂ (stretch feed) (sym place) (sym end))

-- packets behind the last whole group
tail_same : (a d : ℕ) (earlier feed : List (List ℕ)) (mark n m r : ℕ) → (w : Follows earlier feed mark n)
    → mark + n ≤ length feed → n ≡ m + r → m % 4 ≡ 0 → r < 4
    → emission a d (after earlier feed mark n) ≡ emission a d (after earlier feed mark m)
tail_same a d earlier feed mark n m zero w h e y s = grind (arith, after)
tail_same a d earlier feed mark n m (suc r) w h e y s = by_parts m r n w h e y s
  where
    steps : (m r : ℕ) (k : ℕ) → (w : Follows earlier feed mark n) → mark + n ≤ length feed → m + r ≡ k → k ≤ n
        → m % 4 ≡ 0 → r < 4 → emission a d (after earlier feed mark k) ≡ emission a d (after earlier feed mark m)
    steps m zero k w h e l y s = grind (arith, after)
    steps m (suc r) k w h e l y s = emitted_same a d earlier feed mark n (m + r) k w h (omega arith) (λ z. omega arith)
        (omega arith) ∙ steps m r (m + r) w h refl (omega arith) y (omega arith)

    by_parts : (m r k : ℕ) → (w : Follows earlier feed mark n) → mark + n ≤ length feed → n ≡ m + suc r → m % 4 ≡ 0
        → suc r < 4 → emission a d (after earlier feed mark n) ≡ emission a d (after earlier feed mark m)
    by_parts m r k w h e y s = steps m (suc r) n w h (sym e) (omega arith) y s

-- ---- a stretch, from a mark to its end

-- a stretch by its places behind the mark
pub record Within (a d : ℕ) (z : ℤ) (earlier feed : List (List ℕ)) (mark n first : ℕ) : Type 0 where
  pub follows : Follows earlier feed mark n
  pub marks : Marks a d z follows.base feed mark n
  pub group : IsGroup a feed mark n first first

pub within : (a d : ℕ) (z : ℤ) (feed earlier : List (List ℕ)) (mark end k : ℕ) → IsFeed a d z feed
    → IsStretch a feed mark mark end k → IsInStep (syncs earlier)
    → Within a d z earlier feed mark (end - mark) (k - mark)
within a d z feed earlier mark end k f s r =
    let x = s.inside in let y = s.behind in let t = s.whole in let i = s.is_mark in
    let b : IsBehind k = counted_behind (readings feed) k s.order.0 s.order.1 in
    let o = b.whole in
    let at : mark + (k - mark) ≡ k = omega (arith, y) in
    let inside : mark + (end - mark) ≤ length feed = omega (arith, x, y, t) in
    let w : Follows earlier feed mark (end - mark) =
    follows a d z earlier feed mark (end - mark) f i inside (omega (arith, y, t)) r in
    record {
      follows = w;
      marks = record { feed_is = f; at_mark = i; at_other = w.in_step; inside = inside };
      group = record {
        order = (s.order.0, ap (counting_order (readings feed)) at ∙ s.order.1, s.order.2);
        flushed = omega (arith, y);
        whole = omega (arith, y, i, o);
        later = omega arith;
        group = omega (arith, y, i, o);
        within = omega (arith, y, t);
      };
    }

-- what stands before it
pub before_is : (a d : ℕ) (earlier feed : List (List ℕ)) (mark k : ℕ) → mark ≤ k
    → before_first a d earlier feed mark (k - mark) ≡ before_stretch a d earlier feed mark k
unfolding before_stretch
before_is a d earlier feed mark k l = grind (arith, after)

-- where nothing was locked before the mark or a lock in step
lockstep_at : (a d : ℕ) (z : ℤ) (feed earlier : List (List ℕ)) (mark end k : ℕ) → IsFeed a d z feed
    → IsStretch a feed mark mark end k → IsInStep (syncs earlier)
    → emission a d (earlier ++ slice_range feed mark end) ≡ before_stretch a d earlier feed mark k ++ stretch feed k end
lockstep_at a d z feed earlier mark end k f s r =
    let w : Within a d z earlier feed mark (end - mark) (k - mark) = within a d z feed earlier mark end k f s r in
    let c : ℕ = (end - mark - (k - mark) - 4) / 4 in
    let t : k + 4 ≤ end = s.whole in
    let i : mark % 624 ≡ 0 = s.is_mark in
    let o : k % 4 ≡ 0 = (counted_behind (readings feed) k s.order.0 s.order.1).whole in
    let at : mark + (k - mark) ≡ k = omega arith in
    let size : end - mark ≡ k - mark + 4 + 4 * c + (end - (mark + (k - mark + 4 + 4 * c))) = omega (arith, t) in
    tail_same a d earlier feed mark (end - mark) (k - mark + 4 + 4 * c)
    (end - (mark + (k - mark + 4 + 4 * c))) w.follows w.marks.inside size (omega (arith, i, o)) (omega (arith, t))
    ∙ emits a d z earlier feed mark (end - mark) (k - mark) c w.follows w.marks w.group (omega (arith, t))
    ∙ grind (arith, before_is, stretch_whole)

-- whatever was given before
pub lockstep_is : (a d : ℕ) (z : ℤ) (feed earlier : List (List ℕ)) (mark end k : ℕ) → IsFeed a d z feed
    → IsStretch a feed (locked_from earlier mark) mark end k
    → emission a d (earlier ++ slice_range feed mark end) ≡ before_stretch a d earlier feed mark k ++ stretch feed k end
lockstep_is a d z feed earlier mark end k f s =
    let w : IsLocked earlier feed mark (locked_from earlier mark) = locked_stretch a d z feed earlier mark end k f s in
    let y = s.behind in let t = s.whole in let b = w.behind in
    ap (emission a d) (locked_parts earlier feed mark (locked_from earlier mark) end b (omega (arith, y, t)))
    ∙ lockstep_at a d z feed (locked_life earlier feed mark (locked_from earlier mark)) (locked_from earlier mark) end k
    f (grind (arith, stretch_locked)) w.in_step ∙ ap (λ x. x ++ stretch feed k end) (grind (arith, before_locked))

-- whatever is given then
pub lockstep_on : (a d : ℕ) (z : ℤ) (feed earlier later : List (List ℕ)) (mark end k : ℕ) → IsFeed a d z feed
    → IsStretch a feed (locked_from earlier mark) mark end k
    → emission a d (earlier ++ (slice_range feed mark end ++ later))
    ≡ before_stretch a d earlier feed mark k ++ (stretch feed k end
    ++ emission_behind a d (earlier ++ slice_range feed mark end) later)
lockstep_on a d z feed earlier later mark end k f s = ap (emission a d) (sym (grind (arith, append_assoc)))
    ∙ emission_more a d (earlier ++ slice_range feed mark end) later
    ∙ ap (λ x. x ++ emission_behind a d (earlier ++ slice_range feed mark end) later) (grind (arith, lockstep_is))
    ∙ append_assoc (before_stretch a d earlier feed mark k) (stretch feed k end)
    (emission_behind a d (earlier ++ slice_range feed mark end) later)

-- ---- how many segments stand before it

pub sync_at_most : (segments : List (List ℤ)) (k : ℕ) → length (sync_behind segments k) ≤ 1
sync_at_most [] k = omega arith
sync_at_most (s ∷ ss) k = grind arith

pub length-before : (a d : ℕ) (feed earlier : List (List ℕ)) (mark k : ℕ)
    → length (before_stretch a d earlier feed mark k)
    ≡ length (emission a d (earlier ++ slice_range feed mark (k + 3))) + length
    (sync_behind (last_segments a d (earlier ++ slice_range feed mark k)) k)
unfolding before_stretch
length-before a d feed earlier mark k = grind (arith, length-append)
