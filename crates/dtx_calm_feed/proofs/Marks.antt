-- An anchor of packets from a mark of them on.
use Rattle.std.proofs.Common.{◌≡◌, inl, ℕ, ◌+◌, ◌-◌, ◌%◌, ◌<◌, ◌≤◌, ◌==◌, ◌&&◌, Bool, true, false, cond, not, Some}
use Rattle.std.proofs.Common.{None, option_map, List, [], length, take, drop, refl, sym, ap, ◌∙◌, arith, slice_index_or}
use Rattle.std.proofs.Common.{slice_range, eq-eqb, eqb-true, get_or-drop, length-drop, take_all}
use Rattle.std.specs.List.{take-map}
use Rattle.std.proofs.lemmas.List.{drop-map, get_or-map}
use Rattle.dtx_packets.specs.Packets.{sync_of}
use Rattle.dtx_cadence.specs.Anchor.{anchor, anchor_to, ends_lock, has_mark}
use Rattle.dtx_cadence.proofs.NextAnchorLemmas.{anchor_below, anchor_is_mark, anchor_take, none_ended, stays}
use Rattle.dtx_exciter.specs.Packets.{anchor_of, syncs, under}
use Rattle.dtx_exciter.proofs.UnderLemmas.{length-syncs}
use Rattle.dtx_calm_feed.specs.Own.{IsLockedTo, IsMarkOf}

-- ---- sync bytes

-- These have an anchor at a, and a mark at x, in step with it.
record HasMarkAt (s : List ℕ) (a x : ℕ) : Type 0 where
  pub anchor_is : anchor s ≡ Some a
  pub behind : a ≤ x
  pub in_step : (x - a) % 624 ≡ 0
  pub marked : has_mark s x ≡ true

goes_on : (s : List ℕ) (a x i : ℕ) → HasMarkAt s a x → 0 < i → x + i < length s → ends_lock (drop x s) i 0 ≡ false
unfolding anchor
goes_on s a x i h p l = by_due ((i - 0) % 624 == 0) refl
  where
    below : a < length s
    below = anchor_below s a h.anchor_is

    behind : a ≤ x
    behind = h.behind

    steps : (x - a) % 624 ≡ 0
    steps = h.in_step

    rest : Bool → Bool
    rest b = b && not (has_mark (drop x s) i) && not (has_mark (drop x s) (i - 624))

    idle : (b c : Bool) → (false && b && c) ≡ false
    idle true c = refl
    idle false c = refl

    by_due : (t : Bool) → ((i - 0) % 624 == 0) ≡ t → ends_lock (drop x s) i 0 ≡ false
    by_due false e = ap rest e ∙ idle (not (has_mark (drop x s) i)) (not (has_mark (drop x s) (i - 624)))
    by_due true e =
        let due : i % 624 ≡ 0 = omega (arith, eqb-true ((i - 0) % 624) 0 e) in
        let at : x + (i - 624) ≡ x + i - 624 = omega (arith, due, p) in
        let same : (i - 0) % 624 ≡ (x + i - a) % 624 = omega (arith, due, steps, behind) in
        let all : a + 1 + (length s - (a + 1)) ≡ length s = omega (arith, below) in
        ap rest (ap (λ (k : ℕ). k == 0) same) ∙ grind (arith, get_or-drop, none_ended, behind)

from_mark : (s : List ℕ) (a x j : ℕ) → HasMarkAt s a x → 0 < j → x + j ≤ length s → anchor_to (drop x s) j ≡ Some 0
unfolding anchor_to
from_mark s a x j h p l =
    let e : 1 + (j - 1) ≡ j = omega (arith, p) in
    let none : x + 0 ≡ x = omega arith in
    let begins : has_mark (drop x s) 0 ≡ true =
    ap (λ (k : ℕ). k == 0xB8) (get_or-drop x s 0 0) ∙ ap (has_mark s) none ∙ h.marked in
    let first : anchor_to (drop x s) 1 ≡ Some 0 = ap (λ t. cond t (Some 0) None) begins in
    ap (anchor_to (drop x s)) (sym e) ∙ stays (drop x s) 0 1 (j - 1) first (λ i f g. grind (arith, goes_on))

-- ---- packets

pub anchor_from : (d : List (List ℕ)) (a x n : ℕ) → anchor_of d ≡ Some a → a ≤ x → (x - a) % 624 ≡ 0
    → sync_of (slice_index_or d x []) ≡ 0xB8 → x < n → n ≤ length d → anchor_of (slice_range d x n) ≡ Some 0
unfolding anchor_of syncs
anchor_from d a x n h b m k f l =
    let long : length (syncs d) ≡ length d = length-syncs d in
    let at : has_mark (syncs d) x ≡ true = ap (λ (y : ℕ). y == 0xB8) (get_or-map sync_of d x [] 0 (omega (arith, f, l)))
    ∙ eq-eqb (sync_of (slice_index_or d x [])) 0xB8 k in
    ap anchor (sym (take-map sync_of (n - x) (drop x d)) ∙ ap (take (n - x)) (sym (drop-map sync_of x d)))
    ∙ grind (arith, anchor_take, length-drop, from_mark)

pub locked : (feed : List (List ℕ)) (m n : ℕ) → anchor_of feed ≡ Some 0 → IsMarkOf feed m → m < n → n ≤ length feed
    → IsLockedTo feed (slice_range feed m n) n
unfolding under
locked feed m n h k f l =
    let s = k.in_step in
    record {
      before = [];
      mark = m;
      in_step = omega arith;
      at_mark = s;
      inside = l;
      given = ap (λ o. option_map (λ a. drop a (slice_range feed m n)) o)
          (anchor_from feed 0 m n h (omega arith) (omega (arith, s)) k.is_mark f l);
      ordered = inl refl;
    }

-- an anchor is a mark
mark_at : (d : List (List ℕ)) (a : ℕ) → anchor_of d ≡ Some a → a < length d → sync_of (slice_index_or d a []) ≡ 0xB8
unfolding anchor_of syncs anchor
mark_at d a h l = sym (get_or-map sync_of d a [] 0 l)
    ∙ eqb-true (slice_index_or (syncs d) a 0) 0xB8 (anchor_is_mark (syncs d) (length (syncs d)) a h)

pub anchor_again : (d : List (List ℕ)) (a : ℕ) → anchor_of d ≡ Some a → a < length d → anchor_of (drop a d) ≡ Some 0
anchor_again d a h l = ap anchor_of (sym (take_all (length d - a) (drop a d) (omega (arith, length-drop a d))))
    ∙ anchor_from d a a (length d) h (omega arith) (omega arith) (mark_at d a h l) l (omega arith)
