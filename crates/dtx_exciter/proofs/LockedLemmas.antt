-- From which packet of a feed on an exciter is locked to it, and what it was given up to there.
use Rattle.std.proofs.Common.{◌≡◌, ℕ, ℤ, ◌+◌, ◌-◌, ◌%◌, ◌<◌, ◌≤◌, ◌==◌, Bool, true, false, cond, Option, Some, None}
use Rattle.std.proofs.Common.{List, [], ◌++◌, length, take, drop, refl, sym, ap, subst, ◌∙◌, arith}
use Rattle.std.specs.Prelude.{slice_range}
use Rattle.std.proofs.lemmas.Bool.{eqb-true}
use Rattle.std.proofs.lemmas.List.{append-nil, append_assoc, drop-drop, length-append, length-drop}
use Rattle.std.proofs.lemmas.List.{length-take-le, take_all}
use Rattle.dtx_cadence.specs.Anchor.{anchor, anchor_to}
use Rattle.dtx_cadence.proofs.AnchoredLemmas.{in_step_at_third}
use Rattle.dtx_cadence.specs.Cadence.{IsInStep}
use Rattle.dtx_exciter.proofs.FollowedLemmas.{marked_part, syncs_append, Follows, follows}
use Rattle.dtx_exciter.specs.Lockstep.{IsFeed, locked_by, locked_from, HasLock, IsStretch}
use Rattle.dtx_exciter.specs.Packets.{syncs, anchor_of}
use Rattle.dtx_exciter.proofs.SinceMarkLemmas.{take_parts}
use Rattle.dtx_exciter.specs.Stretch.{before_stretch}
use Rattle.dtx_exciter.proofs.UnderLemmas.{length-syncs}

-- all that was given up to packet z of the feed
abbrev pub locked_life : List (List ℕ) → List (List ℕ) → ℕ → ℕ → List (List ℕ)
locked_life earlier feed mark z = earlier ++ slice_range feed mark z

-- Packet z of the feed is a mark, and nothing is locked before it or a lock in step.
pub record IsLocked (earlier feed : List (List ℕ)) (mark z : ℕ) : Type 0 where
  pub at_mark : z % 624 ≡ 0
  pub behind : mark ≤ z
  pub in_step : IsInStep (syncs (locked_life earlier feed mark z))

-- from the mark on
locked_here : (earlier feed : List (List ℕ)) (mark : ℕ) → mark % 624 ≡ 0 → IsInStep (syncs earlier)
    → IsLocked earlier feed mark mark
locked_here earlier feed mark m r = grind (arith, append-nil)

-- from the third mark on
pub locked_third : (a d : ℕ) (y : ℤ) (earlier feed : List (List ℕ)) (mark : ℕ) → IsFeed a d y feed → mark % 624 ≡ 0
    → mark + 1248 ≤ length feed → IsLocked earlier feed mark (mark + 1248)
locked_third a d y earlier feed mark f m l = record {
  at_mark = omega (arith, m);
  behind = omega arith;
  in_step = subst IsInStep whole (in_step_at_third (syncs earlier) part (marked_part a d y feed mark 1248 f m l)
      (omega (arith, long)));
}
  where
    part : List ℕ
    part = syncs (take 1248 (drop mark feed))

    long : length part ≡ 1248
    long = length-syncs (take 1248 (drop mark feed)) ∙ length-take-le 1248 (drop mark feed) (grind (arith, length-drop))

    whole : syncs earlier ++ take 1248 part ≡ syncs (locked_life earlier feed mark (mark + 1248))
    whole =
        let e : 1248 ≡ mark + 1248 - mark = omega arith in
        ap (λ x. syncs earlier ++ x) (take_all 1248 part (omega (arith, long))) ∙ sym (grind (arith, syncs_append))
        ∙ ap (λ n. syncs (earlier ++ take n (drop mark feed))) e

-- whatever was given before
pub locked : (a d : ℕ) (y : ℤ) (earlier feed : List (List ℕ)) (mark : ℕ) → IsFeed a d y feed → mark % 624 ≡ 0
    → locked_from earlier mark ≤ length feed → IsLocked earlier feed mark (locked_from earlier mark)
unfolding locked_from anchor_of
locked a d y earlier feed mark f m l = by_anchor (anchor (syncs earlier)) refl l
  where
    none_some : (j : ℕ) → anchor (syncs earlier) ≡ None → anchor (syncs earlier) ≡ Some j → ⊥
    none_some j h e = let q : None ≡ Some j = sym h ∙ e in cc

    some_some : (i j : ℕ) → Some i ≡ Some j → i ≡ j
    some_some i j e = cc

    by_test : (j : ℕ) → anchor (syncs earlier) ≡ Some j → (t : Bool) → ((length earlier - j) % 624 == 0) ≡ t
        → cond t mark (mark + 1248) ≤ length feed → IsLocked earlier feed mark (cond t mark (mark + 1248))
    by_test j h true e k = locked_here earlier feed mark m (λ i g. grind (arith, some_some, length-syncs, eqb-true))
    by_test j h false e k = locked_third a d y earlier feed mark f m k

    by_anchor : (o : Option ℕ) → anchor (syncs earlier) ≡ o → locked_by o (length earlier) mark ≤ length feed
        → IsLocked earlier feed mark (locked_by o (length earlier) mark)
    by_anchor None h k = locked_here earlier feed mark m (λ j e. absurd (none_some j h e))
    by_anchor (Some j) h k = by_test j h ((length earlier - j) % 624 == 0) refl k

-- ---- a stretch behind it

pub locked_stretch : (a d : ℕ) (y : ℤ) (feed earlier : List (List ℕ)) (mark end k : ℕ) → IsFeed a d y feed
    → IsStretch a feed (locked_from earlier mark) mark end k → IsLocked earlier feed mark (locked_from earlier mark)
locked_stretch a d y feed earlier mark end k f s =
    let b = s.behind in let w = s.whole in let i = s.inside in
    locked a d y earlier feed mark f s.is_mark (omega (arith, b, w, i))

pub stretch_locked : (a : ℕ) (feed earlier : List (List ℕ)) (mark z end k : ℕ) → IsStretch a feed z mark end k
    → IsLocked earlier feed mark z → IsStretch a feed z z end k
stretch_locked a feed earlier mark z end k s w = grind arith

-- what was given, with the feed from there on
pub locked_parts : (earlier feed : List (List ℕ)) (mark z end : ℕ) → mark ≤ z → z ≤ end
    → earlier ++ slice_range feed mark end ≡ locked_life earlier feed mark z ++ slice_range feed z end
locked_parts earlier feed mark z end l h =
    let n : end - mark ≡ z - mark + (end - z) = omega (arith, l, h) in
    ap (λ x. earlier ++ x) (grind (arith, take_parts, drop-drop))
    ∙ sym (append_assoc earlier (slice_range feed mark z) (slice_range feed z end))

pub before_locked : (a d : ℕ) (earlier feed : List (List ℕ)) (mark z k : ℕ) → mark ≤ z → z ≤ k
    → before_stretch a d (locked_life earlier feed mark z) feed z k ≡ before_stretch a d earlier feed mark k
unfolding before_stretch
before_locked a d earlier feed mark z k l h = grind (arith, locked_parts)

-- ---- where it is locked

pub locked_nothing : (mark : ℕ) → locked_from [] mark ≡ mark
unfolding locked_from anchor_of syncs anchor anchor_to
locked_nothing mark = refl

pub locked_soon : (earlier : List (List ℕ)) (mark : ℕ)
    → (mark ≤ locked_from earlier mark) × (locked_from earlier mark ≤ mark + 1248)
unfolding locked_from
locked_soon earlier mark = grind arith

lock_of : (a d : ℕ) (y : ℤ) (earlier feed : List (List ℕ)) (mark z : ℕ) → IsFeed a d y feed → z < length feed
    → IsLocked earlier feed mark z → HasLock earlier feed mark z
lock_of a d y earlier feed mark z f l w = by_follow (grind (arith, follows))
  where
    long : length (locked_life earlier feed mark z) ≡ length earlier + (z - mark)
    long = grind (arith, length-append, length-take-le, length-drop)

    by_follow : Follows (locked_life earlier feed mark z) feed z (length feed - z) → HasLock earlier feed mark z
    by_follow v =
        let b = v.before in let s = v.steps in
        record {
          place = v.place;
          within = omega (arith, b, long);
          steps = ap (λ (n : ℕ). (n - v.place) % 624) (sym long) ∙ s;
          holds = λ n g h.
              let e : n - z ≡ n - z - 1 + 1 = omega (arith, g) in
              ap anchor_of (grind (arith, locked_parts)) ∙ v.anchors (n - z - 1) (omega (arith, g, h));
        }

pub has_lock : (a d : ℕ) (y : ℤ) (feed earlier : List (List ℕ)) (mark : ℕ) → IsFeed a d y feed → mark % 624 ≡ 0
    → locked_from earlier mark < length feed → HasLock earlier feed mark (locked_from earlier mark)
has_lock a d y feed earlier mark f m l = grind (arith, lock_of, locked)
