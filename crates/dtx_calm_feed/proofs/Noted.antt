-- The notes of calm packets, and the orders of calm feeds.
use Rattle.std.proofs.Common.{◌≡◌, ◌≢◌, ℕ, ◌+◌, ◌-◌, ◌*◌, ◌/◌, ◌%◌, ◌<◌, ◌≤◌, ◌==◌, true, Option, Some, None, Result}
use Rattle.std.proofs.Common.{Ok, List, [], ◌∷◌, ◌++◌, length, take, drop, get_or, sym, ap, subst, ◌∙◌, arith}
use Rattle.std.proofs.Common.{length-drop}
use Rattle.std.specs.List.{AllByRecursion}
use Rattle.std.proofs.lemmas.Bool.{cases_lt, cond-false, cond-true}
use Rattle.std.proofs.lemmas.List.{get_or-map, get_or_past, length-map}
use Rattle.std.proofs.lemmas.Slice.Eq.{bytes_eq-Decides}
use Rattle.dtx_coder.specs.Along.{states_since}
use Rattle.dtx_ops.specs.Reading.{reading}
use Rattle.dtx_ops.specs.declared.fields.Ops.{Ops}
use Rattle.dtx_ops.specs.declared.refusal.OpsNo.{OpsNo}
use Rattle.dtx_exciter.proofs.ForceLemmas.{IsBehind, counted_behind}
use Rattle.dtx_exciter.specs.Order.{Order, ordered_at, order_at, counting_order}
use Rattle.dtx_exciter.specs.Packets.{anchor_of, readings}
use Rattle.dtx_watch.proofs.AnchorsLemmas.{below, since}
use Rattle.dtx_watch.proofs.SoundLemmas.{reads_ok}
use Rattle.dtx_watch.specs.Notes.{lock_note, one_or_none, ops_note, packet_note, states_note}
use Rattle.dtx_watch.proofs.ToldLemmas.{counts}
use Rattle.dtx_watch.specs.Watch.{expected_at, expected_by, note_under, notes_at, reading_note, stamped_before}
use Rattle.dtx_watch.specs.declared.notes.Note.{Note}
use Rattle.dtx_watch.specs.declared.notes.StatesNote.TheVariants as states_are
use Rattle.dtx_watch.specs.declared.notes.NoteKind.TheVariants.{Ops as OpsAt}
use Rattle.dtx_calm_feed.specs.Calm.{IsCalmFeed, IsCalmFrom, IsCalmNote, IsCalmWhat}
use Rattle.dtx_calm_feed.proofs.Marks.{anchor_again}
use Rattle.dtx_calm_feed.proofs.Orders.{NeverSlips}

-- ---- what packets order

-- packet k reads so, and its index is its place
pub record IsOrderedAt (l : List (List ℕ)) (k : ℕ) (ops : Ops) : Type 0 where
  pub inside : k < length l
  pub reads_so : reading (get_or l k []) ≡ Ok ops
  pub at_place : (ops.index == k % 624) ≡ true

none_some : (ops : Ops) → ◌≡◌ {A = Option Ops} None (Some ops) → ⊥
none_some ops e = cc

pub ordered_is : (l : List (List ℕ)) (k : ℕ) (ops : Ops) → ordered_at (readings l) k ≡ Some ops → IsOrderedAt l k ops
unfolding readings
ordered_is l k ops e = grind (arith, cases_lt, reads_ok, none_some, get_or-map, get_or_past, length-map)

-- one of the group's packets orders that
record IsIn (l : List (List ℕ)) (i : ℕ) (ops : Ops) : Type 0 where
  pub packet : ℕ
  pub from : i ≤ packet
  pub within : packet < i + 4
  pub is : ordered_at (readings l) packet ≡ Some ops

-- ---- calm notes

pub all_right : (xs ys : List Note) → AllByRecursion IsCalmNote (xs ++ ys) → AllByRecursion IsCalmNote ys
all_right [] ys h = h
all_right (x ∷ xs) ys h = all_right xs ys h.1

pub all_both : (xs ys : List Note) → AllByRecursion IsCalmNote xs → AllByRecursion IsCalmNote ys
    → AllByRecursion IsCalmNote (xs ++ ys)
all_both [] ys h k = k
all_both (x ∷ xs) ys h k = (h.0, all_both xs ys h.1 k)

-- what is told of packet k under the anchor, as packet j of all, where it reads so
abbrev note_of : List (List ℕ) → ℕ → ℕ → Result Ops OpsNo → List Note
note_of l j k r = one_or_none (packet_note j (Some (k % 624)) (expected_at l (4 * (k / 4))) (stamped_before l k) r)

number_free : (l : List (List ℕ)) (j i k : ℕ) → AllByRecursion IsCalmNote (one_or_none (note_under l j k))
    → AllByRecursion IsCalmNote (one_or_none (note_under l i k))
unfolding note_under
number_free l j i k h = grind arith

-- under the anchor
calm_under : (d : List (List ℕ)) (a k : ℕ) → anchor_of d ≡ Some a → a ≤ k → k < length d
    → AllByRecursion IsCalmNote (notes_at d k)
    → AllByRecursion IsCalmNote (one_or_none (note_under (drop a d) k (k - a)))
unfolding notes_at
calm_under d a k h l m n = grind (arith, since, all_right)

pub calm_again : (d : List (List ℕ)) (a : ℕ) → IsCalmFrom d a → IsCalmFeed (drop a d)
unfolding notes_at
calm_again d a c = record {
  anchor_is = anchor_again d a c.anchor_is inside;
  calm = λ k l. calm_at k l;
}
  where
    inside : a < length d
    inside = below d a c.anchor_is

    feed : List (List ℕ)
    feed = drop a d

    calm_at : (k : ℕ) → k < length feed → AllByRecursion IsCalmNote (notes_at feed k)
    calm_at k l =
        let m : a + k < length d = omega (arith, l, length-drop a d) in
        let at : a + k - a ≡ k - 0 = omega arith in
        let now : anchor_of (take (k + 1) feed) ≡ Some 0 =
        since feed 0 (k + 1) (anchor_again d a c.anchor_is inside) (omega arith) (omega (arith, l)) in
        let own : AllByRecursion IsCalmNote (one_or_none (note_under feed k (k - 0))) =
        number_free feed (a + k) k (k - 0) (grind (arith, feed, calm_under)) in
        subst (λ o. AllByRecursion IsCalmNote (one_or_none (lock_note k (anchor_of (take k feed)) o)
        ++ one_or_none (reading_note feed k o))) (sym now) (grind (arith, all_both, feed))

-- what is told of an operations packet at its place
ops_calm : (l : List (List ℕ)) (k : ℕ) (ops : Ops) → IsOrderedAt l k ops
    → AllByRecursion IsCalmNote (one_or_none (note_under l k k))
    → IsCalmWhat (OpsAt (ops_note (expected_at l (4 * (k / 4))) (stamped_before l k) ops))
unfolding note_under
ops_calm l k ops o h = grind (arith, cond-true)

-- the states that the coders have before the group from i on, from this order on
abbrev states_from : List (List ℕ) → ℕ → Order → List ℕ
states_from l i order = states_since (order.place / 4) order.ops.states (take i l)

states_right : (l : List (List ℕ)) (i : ℕ) (order : Order) (older : List Order) (ops : Ops)
    → states_note (expected_by l i (order ∷ older)) ops ≢ states_are.Slip → ops.states ≡ states_from l i order
states_right l i order older ops h = grind (arith, bytes_eq-Decides, cond-false)

-- what is told of an operations packet of a calm feed at its place
pub ordered_calm : (feed : List (List ℕ)) (k : ℕ) (ops : Ops) → IsCalmFeed feed
    → ordered_at (readings feed) k ≡ Some ops
    → IsCalmWhat (OpsAt (ops_note (expected_at feed (4 * (k / 4))) (stamped_before feed k) ops))
ordered_calm feed k ops c e =
    let o : IsOrderedAt feed k ops = ordered_is feed k ops e in
    ops_calm feed k ops o (subst (λ n. AllByRecursion IsCalmNote (one_or_none (note_under feed k n))) (omega arith)
    (calm_under feed 0 k c.anchor_is (omega arith) o.inside (c.calm k o.inside)))

pub never_slips : (feed : List (List ℕ)) → IsCalmFeed feed → NeverSlips feed
unfolding counting_order order_at
never_slips feed c = λ i ops order older e l f.
    let x : IsIn feed i ops = (grind (arith, none_some)) in
    let b : IsBehind i = counted_behind (readings feed) i ops e in
    let k : ℕ = x.packet in
    let from = x.from in
    let within = x.within in
    let whole = b.whole in
    let group : 4 * (k / 4) ≡ i = omega (arith, from, within, whole) in
    states_right feed i order older ops (subst (λ z. states_note z ops ≢ states_are.Slip)
    (ap (expected_at feed) group ∙ counts feed i b.flushed l ∙ ap (expected_by feed i) f)
    (ordered_calm feed k ops c x.is).0)
