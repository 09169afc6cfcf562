-- A packet joins those under the anchor.
use Rattle.std.proofs.Common.{◌≡◌, ◌≢◌, ℕ, ◌+◌, ◌-◌, ◌%◌, ◌<◌, ◌≤◌, ◌⊎◌, ◌==◌, ◌&&◌, ◌||◌, Bool, true, false, not, cond}
use Rattle.std.proofs.Common.{Option, Some, None, option_map, List, [], ◌∷◌, ◌++◌, length, take, drop, set, get_or}
use Rattle.std.proofs.Common.{refl, sym, ap, ap₂, subst, ◌∙◌, arith, inl, inr, nat_le, is_some, eq-eqb, le-leb}
use Rattle.std.proofs.Common.{take_all, get_or-take, get_or-drop}
use Rattle.std.specs.List.{cons_option}
use Rattle.std.specs.Option.{unwrap_or}
use Rattle.std.proofs.lemmas.Bool.{cases_lt, cond-true, cond-false, lt-leb, and_right}
use Rattle.std.proofs.lemmas.List.{length_push, drop-append-le, take-append-le, get_or-append_right}
use Rattle.dtx_packets.specs.declared.packet.Packet.{Packet}
use Rattle.dtx_coder.specs.Groups.{Coding, after_group}
use Rattle.dtx_coder.proofs.AlongLemmas.{states_along}
use Rattle.dtx_ops.specs.declared.fields.Ops.{Ops}
use Rattle.dtx_exciter.specs.Order.{Order, counting_order, placed, orders}
use Rattle.dtx_exciter.specs.Packets.{readings}
use Rattle.dtx_exciter.specs.Step.{bytes_of}
use Rattle.dtx_exciter.specs.Kept.{whole, last_orders, RunsUnder}
use Rattle.dtx_exciter.proofs.EndsLemmas as Ends
use Rattle.dtx_exciter.proofs.JoinedLemmas.{last_same, settled_same, held_more, front_same, group_bytes, settled_more}
use Rattle.dtx_exciter.proofs.JoinedLemmas.{partial_full}
use Rattle.dtx_exciter.proofs.GroupSentLemmas.{IsGiven, runs_more}
use Rattle.dtx_watch.specs.declared.notes.Note.{Note}
use Rattle.dtx_watch.specs.declared.notes.NoteKind.TheVariants as what
use Rattle.dtx_watch.specs.declared.telling.Expected.{Expected}
use Rattle.dtx_watch.specs.declared.telling.Expected.TheVariants.{Early, First, These}
use Rattle.dtx_watch.specs.declared.watcher.Watcher.{Watcher}
use Rattle.dtx_watch.specs.Watch.{expected_by, expected_at, stamped_before, group_notes}
use Rattle.dtx_watch.specs.Step.{group_at_hand, order_of, earliest, notes_in, lock_notes, expected_of, states_in}
use Rattle.dtx_watch.specs.Step.{group_of, IsEnded}
use Rattle.dtx_watch.specs.Kept.{are_some, KeepsUnder, IsJoined}
use Rattle.dtx_watch.proofs.GroupsLemmas.{IsAtHand, notes_at_hand, order_at_hand, stamped_at_hand}
use Rattle.dtx_watch.proofs.ToldLemmas.{stamped_front, not_whole, counts, early}

-- ---- a packet that ends no group

stamped_same : (l : List (List ℕ)) (p : List ℕ) → length l % 4 ≢ 3
    → stamped_before (l ++ p ∷ []) (whole (l ++ p ∷ [])) ≡ stamped_before l (whole l)
stamped_same l p h = grind (arith, length_push, stamped_front)

-- the watcher with one packet more of the group at hand
abbrev pub with_packet : Watcher → ℕ → Packet → Watcher
with_packet w place packet = record w {
  first = place - place % 4;
  part = place % 4 + 1;
  packets = set w.packets (place % 4) packet;
}

pub joined_partial : (l : List (List ℕ)) (old : Watcher) (place : ℕ) (packet : Packet) (k : ℕ) (given : List Note)
    → KeepsUnder old l → place ≡ length l % 624 → place % 4 ≢ 3 → length old.packets ≡ 4 → given ≡ []
    → IsJoined (l ++ packet.0 ∷ []) k (with_packet old place packet) given
joined_partial l old place packet k given keeps e h four none =
    let m : place % 4 ≡ length l % 4 = omega (arith, e) in
    let n : length l % 4 ≢ 3 = λ x. h (m ∙ x) in
    let w : whole (l ++ packet.0 ∷ []) ≡ whole l = omega (arith, n, length_push l packet.0) in
    let s : length (l ++ packet.0 ∷ []) % 4 ≡ length l % 4 + 1 = omega (arith, n, length_push l packet.0) in
    record {
      notes = none ∙ sym (cond-false (length (l ++ packet.0 ∷ []) % 4 == 0) _ _ (grind arith));
      part = omega (arith, m, s);
      keeps = record {
        first = λ _. omega (arith, e, w);
        flushed = keeps.flushed ∙ settled_same (length l) n (cases_lt (length l) 52)
            ∙ ap (nat_le 52) (sym (length_push l packet.0));
        partial = grind (arith, held_more, drop-append-le);
        ordered = keeps.ordered ∙ ap are_some (sym (last_same l packet.0 n));
        latest = keeps.latest ∙ sym (stamped_same l packet.0 n);
        coder = subst (λ x. RunsUnder x (last_orders (l ++ packet.0 ∷ [])) old.coder) (sym (front_same l packet.0 n))
            (subst (λ o. RunsUnder (take (whole l) l) o old.coder) (sym (last_same l packet.0 n)) keeps.coder);
      };
    }

-- ---- the first group under an anchor

lock_test : (i n first : ℕ) (flushed : Bool) → i % 4 ≡ 0 → n < 4 → first ≡ i % 624 → flushed ≡ nat_le 52 (i + n)
    → ((first == 0) && not flushed) ≡ (i == 0)
lock_test i n first flushed w few e f = grind (arith, cases_lt, eq-eqb, lt-leb, le-leb, and_right)

-- the group at hand of a watcher is that of these packets from i on, of which n are given, and packet i is packet k of
-- all
pub record Holds (w : Watcher) (l : List (List ℕ)) (i n k : ℕ) (expected : Expected) : Type 0 where
  pub at_hand : IsAtHand (group_at_hand w expected) l i n
  pub number : w.count - w.part ≡ k
  pub lock : ((w.first == 0) && not w.flushed) ≡ (i == 0)

pub all_notes : (w : Watcher) (l : List (List ℕ)) (i n k : ℕ) (expected : Expected) → Holds w l i n k expected
    → lock_notes w ++ notes_in (group_at_hand w expected) n ≡ group_notes l k i n
unfolding group_notes
all_notes w l i n k expected h = ap₂ ◌++◌
    (ap₂ (λ b x. cond b ((record { packet = x; what = what.Lock }) ∷ []) []) h.lock h.number)
    (rw (notes_at_hand (group_at_hand w expected) l i n h.at_hand, h.number))

-- the part of a group, where no more packets come
pub part_at_hand : (w : Watcher) (l : List (List ℕ)) (i n : ℕ) → KeepsUnder w l → length l ≡ i + n → i % 4 ≡ 0
    → 0 < n → n < 4 → w.part ≡ n → Holds w l i n (w.count - n) Early
part_at_hand w l i n keeps e z some few part =
    let at : whole l ≡ i = omega (arith, e, z, few) in
    let rest : length l % 4 ≡ n = omega (arith, e, z, few) in
    let first : w.first ≡ i % 624 = keeps.first (omega (arith, rest, some)) ∙ ap (λ (x : ℕ). x % 624) at in
    let held : take n (bytes_of w.packets) ≡ drop i l =
    ap (λ x. take x (bytes_of w.packets)) (sym rest) ∙ keeps.partial ∙ ap (λ x. drop x l) at in
    record {
      at_hand = record {
        place = first;
        whole = z;
        expected = sym (not_whole l i (omega (arith, e, few)));
        before = keeps.latest ∙ ap (stamped_before l) at;
        packets = λ m h.
            sym (get_or-take n (bytes_of w.packets) m [] h) ∙ ap (λ x. get_or x m []) held ∙ get_or-drop i l m [];
        inside = omega (arith, e);
        few = omega (arith, few);
      };
      number = ap (λ (x : ℕ). w.count - x) part;
      lock = lock_test i n w.first w.flushed z few first (keeps.flushed ∙ ap (nat_le 52) e);
    }

-- ---- a packet that ends a group

-- the watcher has all of the group from i on in hand, whose last packet is p
pub record IsFull (w : Watcher) (l : List (List ℕ)) (p : List ℕ) (i : ℕ) : Type 0 where
  pub ends : Ends.Ends l i
  pub first : w.first ≡ i % 624
  pub part : w.part ≡ 4
  pub flushed : w.flushed ≡ nat_le 52 (length l)
  pub packets : bytes_of w.packets ≡ Ends.group l i p
  pub ordered : w.ordered ≡ are_some (last_orders l)
  pub latest : w.latest ≡ stamped_before l i
  pub coder : RunsUnder (Ends.front l i) (last_orders l) w.coder

expected_orders : (w : Watcher) (l : List (List ℕ)) (p : List ℕ) (i : ℕ) (os : List Order) → IsFull w l p i
    → last_orders l ≡ os → 52 ≤ i → cond (not w.ordered) First (These w.coder.states) ≡ expected_by (l ++ p ∷ []) i os
expected_orders w l p i [] h e m = ap (λ b. cond (not b) First (These w.coder.states)) (h.ordered ∙ ap are_some e)
expected_orders w l p i (order ∷ older) h e m =
    let o : Ends.IsOlder i order = Ends.last_older l i order older h.ends e in
    let x = o.flushed in
    let y = o.whole in
    let long = h.ends.long in
    ap (λ b. cond (not b) First (These w.coder.states)) (h.ordered ∙ ap are_some e) ∙ ap These
    (grind (arith, states_along, take-append-le))

expected_full : (w : Watcher) (l : List (List ℕ)) (p : List ℕ) (i : ℕ) → IsFull w l p i
    → expected_of w ≡ expected_at (l ++ p ∷ []) i
expected_full w l p i h = by_place (cases_lt i 52)
  where
    by_place : (i < 52) ⊎ (52 ≤ i) → expected_of w ≡ expected_at (l ++ p ∷ []) i
    by_place (inl m) = grind (arith, lt-leb, early)
    by_place (inr m) =
        let a = h.ends.long in
        ap (λ b. cond (not b) Early (cond (not w.ordered) First (These w.coder.states)))
        (h.flushed ∙ le-leb 52 (length l) (omega (arith, a, m)))
        ∙ expected_orders w l p i (orders (readings (l ++ p ∷ [])) (i - 4)) h
        (sym (Ends.before_is l i p h.ends (omega (arith, m)))) m
        ∙ sym (counts (l ++ p ∷ []) i m (omega (arith, Ends.length-all l i p h.ends)))

full_at_hand : (w : Watcher) (l : List (List ℕ)) (p : List ℕ) (i : ℕ) → IsFull w l p i
    → IsAtHand (group_at_hand w (expected_of w)) (l ++ p ∷ []) i 4
full_at_hand w l p i h =
    let long = h.ends.long in
    record {
      place = h.first;
      whole = h.ends.whole;
      expected = expected_full w l p i h;
      before = h.latest ∙ sym (stamped_front l (p ∷ []) i (omega (arith, long)));
      packets = λ m k.
          ap (λ x. get_or x m []) h.packets ∙ sym (ap (λ x. get_or x (i + m) []) (sym (Ends.parts l i p))
          ∙ get_or-append_right (Ends.front l i) (Ends.group l i p) i (i + m) [] (Ends.length-front l i h.ends)
          (omega arith)
          ∙ ap (λ x. get_or (Ends.group l i p) x []) (omega arith));
      inside = omega (arith, Ends.length-all l i p h.ends);
      few = omega arith;
    }

full_holds : (w : Watcher) (l : List (List ℕ)) (p : List ℕ) (i : ℕ) → IsFull w l p i
    → Holds w (l ++ p ∷ []) i 4 (w.count - 4) (expected_of w)
full_holds w l p i h = record {
  at_hand = full_at_hand w l p i h;
  number = ap (λ (x : ℕ). w.count - x) h.part;
  lock = lock_test i 3 w.first w.flushed h.ends.whole (omega arith) h.first (h.flushed ∙ ap (nat_le 52) h.ends.long);
}

-- the states that the group orders
map_cond : {A B : Type 0} (f : A → B) (b : Bool) (o : Option A)
    → cond b (option_map f o) None ≡ option_map f (cond b o None)
map_cond f true o = refl
map_cond f false o = refl

states_full : (w : Watcher) (l : List (List ℕ)) (p : List ℕ) (i : ℕ) → IsFull w l p i
    → states_in w ≡ option_map (λ (o : Ops). o.states) (counting_order (readings (l ++ p ∷ [])) i)
unfolding states_in
states_full w l p i h =
    map_cond (λ (o : Ops). o.states) w.flushed (earliest (order_of (group_at_hand w (expected_of w))) 4)
    ∙ ap (option_map (λ (o : Ops). o.states)) (ap₂ (λ b o. cond b o None) h.flushed
    (order_at_hand (group_at_hand w (expected_of w)) (l ++ p ∷ []) i (full_at_hand w l p i h)
    ∙ sym (Ends.order_is l i (i % 624) p h.ends refl))
    ∙ Ends.own_is l i (i % 624) p h.ends refl)

given_full : (w : Watcher) (l : List (List ℕ)) (p : List ℕ) (i : ℕ) → IsFull w l p i
    → IsGiven (Ends.front l i) (Ends.group l i p) i (counting_order (readings (l ++ p ∷ [])) i) (last_orders l) w.coder
    (group_of w)
unfolding group_of
given_full w l p i h = record {
  runs = h.coder;
  next = record {
    place = let x = h.first in (omega (arith, x)) ∙ ap (λ (n : ℕ). n % 312) (sym (Ends.length-front l i h.ends));
    four = ap (λ (x : List (List ℕ)). length x) h.packets ∙ Ends.length-group l i p h.ends;
    states = ap (λ q. unwrap_or q w.coder.states) (states_full w l p i h);
  };
  packets = h.packets;
  long = Ends.length-front l i h.ends;
  whole = h.ends.whole;
}

orders_now : (l : List (List ℕ)) (p : List ℕ) (i : ℕ) → Ends.Ends l i
    → last_orders (l ++ p ∷ []) ≡ cons_option (placed i (counting_order (readings (l ++ p ∷ [])) i)) (last_orders l)
orders_now l p i e = Ends.last_all l i p e ∙ Ends.force_is l i p e

coder_full : (w : Watcher) (l : List (List ℕ)) (p : List ℕ) (i : ℕ) → IsFull w l p i
    → RunsUnder (take (whole (l ++ p ∷ [])) (l ++ p ∷ [])) (last_orders (l ++ p ∷ [])) (after_group w.coder (group_of
    w))
coder_full w l p i h =
    let all : List (List ℕ) = l ++ p ∷ [] in
    let coder : Coding = after_group w.coder (group_of w) in
    subst (λ x. RunsUnder x (last_orders all) coder) (sym (take_all (whole all) all (let z = h.ends.whole in
    omega (arith, z, Ends.whole-all l i p h.ends, Ends.length-all l i p h.ends))))
    (subst (λ o. RunsUnder all o coder) (sym (orders_now l p i h.ends))
    (subst (λ x. RunsUnder x (cons_option (placed i (counting_order (readings all) i)) (last_orders l)) coder)
    (Ends.parts l i p)
    (runs_more (Ends.front l i) (Ends.group l i p) i (counting_order (readings all) i) (last_orders l) w.coder
    (group_of w) (given_full w l p i h))))

some_more : (i : ℕ) (o : Option Ops) (r : List Order)
    → (are_some r || is_some (option_map (λ (x : Ops). x.states) o)) ≡ are_some (cons_option (placed i o) r)
some_more i None [] = refl
some_more i None (order ∷ older) = refl
some_more i (Some ops) [] = refl
some_more i (Some ops) (order ∷ older) = refl

ordered_full : (w : Watcher) (l : List (List ℕ)) (p : List ℕ) (i : ℕ) → IsFull w l p i
    → (w.ordered || is_some (states_in w)) ≡ are_some (last_orders (l ++ p ∷ []))
ordered_full w l p i h = grind (arith, states_full, some_more) ∙ ap are_some (sym (orders_now l p i h.ends))

-- what is kept behind it
pub joined_full : (l : List (List ℕ)) (w made now : Watcher) (p : List ℕ) (i place k : ℕ) (given : List Note)
    → IsFull w l p i → IsEnded w made given → place ≡ length l % 624 → k ≡ w.count - 1
    → now ≡ record made { part = 0; flushed = made.flushed || (place == 51) } → IsJoined (l ++ p ∷ []) k now given
joined_full l w made now p i place k given h e at last is =
    let all : List (List ℕ) = l ++ p ∷ [] in
    let z = h.ends.whole in
    let size = Ends.length-all l i p h.ends in
    let end : length all % 4 ≡ 0 = omega (arith, z, size) in
    let from : length all - 4 ≡ i = omega (arith, size) in
    let number : w.count - 4 ≡ k - 3 = omega (arith, last) in
    let four : i + 4 ≡ whole all = omega (arith, Ends.whole-all l i p h.ends) in
    record {
      notes = e.notes ∙ all_notes w all i 4 (w.count - 4) (expected_of w) (full_holds w l p i h)
          ∙ ap₂ (λ x y. group_notes all x y 4) number (sym from) ∙ sym (grind (arith, cond-true, eq-eqb));
      part = ap (λ (x : Watcher). x.part) is ∙ sym end;
      keeps = record {
        first = λ some. absurd (omega (arith, some, end));
        flushed = grind (arith, settled_more, cases_lt, length_push);
        partial = partial_full l p i (bytes_of now.packets) h.ends;
        ordered = ap (λ (x : Watcher). x.ordered) is ∙ ap (λ (x : Watcher). x.ordered) e.made ∙ ordered_full w l p i h;
        latest = ap (λ (x : Watcher). x.latest) is ∙ ap (λ (x : Watcher). x.latest) e.made
            ∙ stamped_at_hand (group_at_hand w (expected_of w)) all i 4 4 (full_at_hand w l p i h) (omega arith)
            ∙ ap (stamped_before all) four;
        coder = subst (λ x. RunsUnder (take (whole all) all) (last_orders all) x)
            (sym (ap (λ (x : Watcher). x.coder) is ∙ ap (λ (x : Watcher). x.coder) e.made)) (coder_full w l p i h);
      };
    }

-- the watcher before it
pub is_full : (l : List (List ℕ)) (old : Watcher) (place : ℕ) (packet : Packet) (i : ℕ) → KeepsUnder old l
    → place ≡ length l % 624 → place % 4 ≡ 3 → length old.packets ≡ 4 → length l ≡ i + 3
    → IsFull (with_packet old place packet) l packet.0 i
is_full l old place packet i keeps e last four long = grind (arith, group_bytes)
