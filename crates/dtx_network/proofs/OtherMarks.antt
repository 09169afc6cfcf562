-- Marks of a feed that are missing, and stray ones: an exciter that is locked to the feed makes the same of its
-- packets.
use Rattle.std.proofs.Common.{◌≡◌, ◌⊎◌, inl, inr, ℕ, ℤ, ◌+◌, ◌-◌, ◌%◌, ◌<◌, ◌≤◌, ◌==◌, true, List, [], ◌++◌, length}
use Rattle.std.proofs.Common.{get_or, set, take, drop, refl, sym, ap, subst, ◌∙◌, arith, slice_range, eq-eqb}
use Rattle.std.proofs.Common.{length-append, length-drop, length-take-le, take-take, get_or-append-add, get_or-take}
use Rattle.std.proofs.Common.{get_or-drop}
use Rattle.std.proofs.Math.Seq.{take-append-add, take-set-lt}
use Rattle.std.proofs.lemmas.Bool.{cases_lt}
use Rattle.std.proofs.lemmas.List.{map-append, get_or_append_left, set-append_right, drop-set-add}
use Rattle.dtx_cadence.specs.Anchor.{has_mark}
use Rattle.dtx_cadence.specs.Cadence.{HasMarksRound}
use Rattle.dtx_exciter.proofs.FollowedLemmas.{marked_part, syncs_append}
use Rattle.dtx_exciter.proofs.LockedLemmas.{IsLocked, locked, has_lock}
use Rattle.dtx_exciter.specs.Lockstep.{IsFeed, HasLock, locked_from}
use Rattle.dtx_exciter.specs.Packets.{anchor_of, syncs, bodies, AreSentAlike}
use Rattle.dtx_exciter.proofs.SentAlikeLemmas.{one_missing, stray}
use Rattle.dtx_exciter.proofs.UnderLemmas.{length-syncs}

-- ---- marks of all that is given

part_is : (feed : List (List ℕ)) (mark n : ℕ) → slice_range feed mark (mark + n) ≡ take n (drop mark feed)
part_is feed mark n = let e : mark + n - mark ≡ n = omega arith in ap (λ k. take k (drop mark feed)) e

mark_early : (earlier given : List (List ℕ)) (i : ℕ) → i < length earlier
    → has_mark (syncs (earlier ++ given)) i ≡ has_mark (syncs earlier) i
mark_early earlier given i l = grind (arith, syncs_append, get_or_append_left, length-syncs)

mark_given : (earlier given : List (List ℕ)) (m : ℕ)
    → has_mark (syncs (earlier ++ given)) (length earlier + m) ≡ has_mark (syncs given) m
mark_given earlier given m = grind (arith, syncs_append, length-syncs, get_or-append-add)

mark_own : (a d : ℕ) (y : ℤ) (earlier feed : List (List ℕ)) (mark n m : ℕ) → IsFeed a d y feed → mark % 624 ≡ 0
    → mark + n ≤ length feed → m < n
    → has_mark (syncs (earlier ++ take n (drop mark feed))) (length earlier + m) ≡ (m % 624 == 0)
mark_own a d y earlier feed mark n m f e l h =
    grind (arith, mark_given, marked_part, length-syncs, length-take-le, length-drop)

-- ---- one is missing

-- the packets with another one at a place
other_packet : (earlier feed : List (List ℕ)) (mark n m : ℕ) (packet : List ℕ) → m < n
    → set (earlier ++ take n (drop mark feed)) (length earlier + m) packet
    ≡ earlier ++ take n (drop mark (set feed (mark + m) packet))
other_packet earlier feed mark n m packet h =
    let e : length earlier + m - length earlier ≡ m = omega arith in
    set-append_right earlier (take n (drop mark feed)) (length earlier) (length earlier + m) packet refl (omega arith)
    ∙ grind (arith, take-set-lt, drop-set-add)

marks_round : (a d : ℕ) (y : ℤ) (earlier feed : List (List ℕ)) (mark n m : ℕ) → IsFeed a d y feed → mark % 624 ≡ 0
    → mark + n ≤ length feed → m < n → m % 624 ≡ 0 → 624 ≤ m
    → HasMarksRound (syncs (earlier ++ take n (drop mark feed))) (length earlier + m)
marks_round a d y earlier feed mark n m f e l h g far =
    let low : length earlier + m - 624 ≡ length earlier + (m - 624) = omega (arith, far) in
    let high : length earlier + m + 624 ≡ length earlier + (m + 624) = omega arith in
    let life : List (List ℕ) = earlier ++ take n (drop mark feed) in
    record {
      before = ap (has_mark (syncs life)) low ∙ mark_own a d y earlier feed mark n (m - 624) f e l (omega (arith, h))
          ∙ eq-eqb ((m - 624) % 624) 0 (omega (arith, g, far));
      behind = λ k. grind (arith, mark_own, length-syncs, length-append, length-take-le, length-drop, eq-eqb);
    }

pub one_mark_missing : (a d : ℕ) (y : ℤ) (feed earlier : List (List ℕ)) (mark n i : ℕ) (packet : List ℕ)
    → IsFeed a d y feed → mark % 624 ≡ 0 → mark + n ≤ length feed → i % 624 ≡ 0
    → locked_from earlier mark + 624 ≤ i → i < mark + n → drop 1 packet ≡ drop 1 (get_or feed i [])
    → AreSentAlike (earlier ++ slice_range feed mark (mark + n))
    (earlier ++ slice_range (set feed i packet) mark (mark + n))
one_mark_missing a d y feed earlier mark n i packet f e l g h b c =
    let z : ℕ = locked_from earlier mark in
    let k : IsLocked earlier feed mark z = locked a d y earlier feed mark f e (omega (arith, h, b, l)) in
    let late = k.behind in
    let w : HasLock earlier feed mark z = has_lock a d y feed earlier mark f e (omega (arith, h, b, l)) in
    let m : ℕ = i - mark in
    let at : mark + (i - mark) ≡ i = omega (arith, late, h) in
    let small : i - mark < n = omega (arith, late, h, b) in
    let part : List (List ℕ) = take n (drop mark feed) in
    let front : take (length earlier + m) (earlier ++ part) ≡ earlier ++ slice_range feed mark i =
    take-append-add earlier part m ∙ ap (λ x. earlier ++ x) (take-take m n (drop mark feed) (omega (arith, small))) in
    let body : get_or (earlier ++ part) (length earlier + m) [] ≡ get_or feed i [] =
    get_or-append-add earlier part m [] ∙ get_or-take n (drop mark feed) m [] small ∙ get_or-drop mark feed m []
    ∙ ap (λ x. get_or feed x []) at in
    subst (λ x. AreSentAlike (earlier ++ x) (earlier ++ slice_range (set feed i packet) mark (mark + n)))
    (sym (part_is feed mark n)) (subst (AreSentAlike (earlier ++ part)) (grind (arith, other_packet, part_is))
    (one_missing (earlier ++ part) packet (length earlier + m) w.place
    (ap anchor_of front ∙ w.holds i (omega (arith, h)) (omega (arith, b, l)))
    (grind (arith, length-append, length-take-le, length-drop))
    (marks_round a d y earlier feed mark n m f e l small (omega (arith, e, g, late, h)) (omega (arith, late, h)))
    (c ∙ ap (drop 1) (sym body))))

-- ---- stray ones

bodies_more : (xs ys : List (List ℕ)) → bodies (xs ++ ys) ≡ bodies xs ++ bodies ys
unfolding bodies
bodies_more xs ys = map-append (drop 1) xs ys

-- where a mark is due under an anchor in step with a feed, it is due in the feed
due_there : (n s p m : ℕ) → p ≤ n + s → (n + s - p) % 624 ≡ 0 → s % 624 ≡ 0 → p < n + m → (n + m - p) % 624 ≡ 0
    → m % 624 ≡ 0
due_there n s p m a b c e f = omega arith

pub stray_marks_pass : (a d : ℕ) (y : ℤ) (feed earlier other : List (List ℕ)) (mark n : ℕ) → IsFeed a d y feed
    → mark % 624 ≡ 0 → mark + n ≤ length feed → locked_from earlier mark < mark + n
    → bodies other ≡ bodies (slice_range feed mark (mark + n))
    → ((i : ℕ) → mark + i ≤ locked_from earlier mark → has_mark (syncs other) i ≡ (i % 624 == 0))
    → ((i : ℕ) → i < n → i % 624 ≡ 0 → has_mark (syncs other) i ≡ true)
    → AreSentAlike (earlier ++ slice_range feed mark (mark + n)) (earlier ++ other)
stray_marks_pass a d y feed earlier other mark n f e l h b up_to due =
    let z : ℕ = locked_from earlier mark in
    let size : length (syncs (earlier ++ part)) ≡ length earlier + n =
    length-syncs (earlier ++ part) ∙ length-append earlier part ∙ ap (λ (x : ℕ). length earlier + x)
    (length-take-le n (drop mark feed) (omega (arith, l, length-drop mark feed))) in
    subst (λ x. AreSentAlike (earlier ++ x) (earlier ++ other)) (sym (part_is feed mark n))
    (stray (earlier ++ part) (earlier ++ other) w.place
    (bodies_more earlier part ∙ ap (λ x. bodies earlier ++ x) (sym (b ∙ ap bodies (part_is feed mark n)))
    ∙ sym (bodies_more earlier other))
    (ap (λ x. anchor_of (earlier ++ x)) (sym (part_is feed mark n)) ∙ w.holds (mark + n) h l)
    (λ i low. by_first i low (cases_lt i (length earlier))) (λ i high low step. elim (cases_lt i (length earlier)) [
      | inl before ↦ early i before
      | inr behind ↦
          let at : i ≡ length earlier + (i - length earlier) = omega (arith, behind) in
          let small : i - length earlier < n = omega (arith, low, size, behind) in
          let whole = k.at_mark in
          let there : (i - length earlier) % 624 ≡ 0 =
          due_there (length earlier) (locked_from earlier mark - mark) w.place (i - length earlier) w.within w.steps
          (omega (arith, whole, e, late)) (omega (arith, high, behind))
          (ap (λ (x : ℕ). (x - w.place) % 624) (sym at) ∙ step) in
          given i behind small
          (due (i - length earlier) small there ∙ sym (eq-eqb ((i - length earlier) % 624) 0 there))
    ]))
  where
    part : List (List ℕ)
    part = take n (drop mark feed)

    k : IsLocked earlier feed mark (locked_from earlier mark)
    k = locked a d y earlier feed mark f e (omega (arith, h, l))

    late : mark ≤ locked_from earlier mark
    late = k.behind

    w : HasLock earlier feed mark (locked_from earlier mark)
    w = has_lock a d y feed earlier mark f e (omega (arith, h, l))

    early : (i : ℕ) → i < length earlier → has_mark (syncs (earlier ++ part)) i ≡ has_mark (syncs (earlier ++ other)) i
    early i low = mark_early earlier part i low ∙ sym (mark_early earlier other i low)

    given : (i : ℕ) → length earlier ≤ i → i - length earlier < n
        → has_mark (syncs other) (i - length earlier) ≡ ((i - length earlier) % 624 == 0)
        → has_mark (syncs (earlier ++ part)) i ≡ has_mark (syncs (earlier ++ other)) i
    given i high low own =
        let at : i ≡ length earlier + (i - length earlier) = omega (arith, high) in
        ap (has_mark (syncs (earlier ++ part))) at
        ∙ mark_own a d y earlier feed mark n (i - length earlier) f e l low ∙ sym own
        ∙ sym (mark_given earlier other (i - length earlier)) ∙ ap (has_mark (syncs (earlier ++ other))) (sym at)

    by_first : (i : ℕ) → i < w.place + 1 → (i < length earlier) ⊎ (length earlier ≤ i)
        → has_mark (syncs (earlier ++ part)) i ≡ has_mark (syncs (earlier ++ other)) i
    by_first i low (inl before) = early i before
    by_first i low (inr behind) =
        let within = w.within in
        given i behind (omega (arith, within, low, behind, late, h))
        (up_to (i - length earlier) (omega (arith, within, low, behind, late)))
