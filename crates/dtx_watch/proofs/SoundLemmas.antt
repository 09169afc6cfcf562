-- A sound feed, watched from any of its marks on.
use Rattle.std.proofs.Common.{◌≡◌, ◌≢◌, ◌⊎◌, inl, inr, ℕ, zero, suc, ◌+◌, ◌-◌, ◌*◌, ◌/◌, ◌%◌, ◌<◌, ◌≤◌, ◌==◌, ◌&&◌}
use Rattle.std.proofs.Common.{Bool, true, false, cond, Option, Some, None, option_map, Result, Ok, Err, List, [], ◌∷◌}
use Rattle.std.proofs.Common.{◌++◌, length, take, drop, get_or, refl, sym, ap, ap₂, subst, ◌∙◌, arith, nat_le, eq-eqb}
use Rattle.std.proofs.Common.{ne_eqb, get_or-drop, length-drop, length-take-le, length-append, take-take}
use Rattle.std.specs.List.{take-map}
use Rattle.std.specs.Str.{bytes_eq}
use Rattle.std.proofs.lemmas.Slice.Eq.{bytes_eq-Decides}
use Rattle.std.proofs.lemmas.Bool.{cases_lt, cond-true, cond-false, and_from}
use Rattle.std.proofs.lemmas.List.{get_or-map, get_or_past, length-map}
use Rattle.dtx_clock.proofs.StampsLemmas.{stamps_run}
use Rattle.dtx_coder.specs.Stream.{states}
use Rattle.dtx_coder.specs.Along.{states_since}
use Rattle.dtx_packets.specs.Packets.{sync_of}
use Rattle.dtx_cadence.specs.Anchor.{anchor}
use Rattle.dtx_cadence.specs.Cadence.{IsMarked, IsAnchored}
use Rattle.dtx_cadence.proofs.AnchoredLemmas.{anchored}
use Rattle.dtx_ops.specs.declared.fields.Ops.{Ops}
use Rattle.dtx_ops.specs.declared.refusal.OpsNo.{OpsNo}
use Rattle.dtx_ops.specs.declared.refusal.OpsNo.TheVariants.{NotOps}
use Rattle.dtx_ops.specs.Reading.{reading}
use Rattle.dtx_exciter.specs.Order.{Order, either, ordered, ordered_at, order_at, counting_order, orders}
use Rattle.dtx_exciter.specs.Packets.{reads, readings, syncs, anchor_of}
use Rattle.dtx_exciter.proofs.ForceLemmas.{Stands, force_stands, IsBehind, counted_behind}
use Rattle.dtx_exciter.proofs.SinceMarkLemmas.{states_mark, states_from_group, take_parts}
use Rattle.dtx_exciter.proofs.UnderLemmas.{length-syncs, under_nothing}
use Rattle.dtx_watch.proofs.AnchorsLemmas.{no_anchor}
use Rattle.dtx_watch.proofs.ToldLemmas.{early, not_whole, counts}
use Rattle.dtx_watch.specs.declared.notes.Note.{Note}
use Rattle.dtx_watch.specs.declared.notes.NoteKind.TheVariants.{Lock, Ops as OpsAt}
use Rattle.dtx_watch.specs.declared.notes.StatesNote.{StatesNote}
use Rattle.dtx_watch.specs.declared.notes.StatesNote.TheVariants as states_are
use Rattle.dtx_watch.specs.declared.notes.ClockNote.{ClockNote}
use Rattle.dtx_watch.specs.declared.notes.ClockNote.TheVariants as clock_is
use Rattle.dtx_watch.specs.Clock.{stamp_in, clock_note}
use Rattle.dtx_watch.specs.Notes.{states_note, ops_note, packet_note, lock_note, one_or_none}
use Rattle.dtx_watch.specs.Watch.{latest, expected_by, expected_at, stamped_before, note_under, reading_note, notes_at}
use Rattle.dtx_watch.specs.Sound.{SaysAt, IsSoundAt, IsSoundFeed, IsCalm, IsCalmAt}

-- ---- packets from a mark on

-- the packets d are those of the feed f from its mark m on
pub record IsFrom (start most : ℕ) (f d : List (List ℕ)) (m : ℕ) : Type 0 where
  pub sound : IsSoundFeed start most f
  pub mark : m % 624 ≡ 0
  pub inside : m < length f
  pub are : d ≡ drop m f

packet_from : (start most : ℕ) (f d : List (List ℕ)) (m k : ℕ) → IsFrom start most f d m
    → get_or d k [] ≡ get_or f (m + k) []
packet_from start most f d m k h = ap (λ x. get_or x k []) h.are ∙ get_or-drop m f k []

long_from : (start most : ℕ) (f d : List (List ℕ)) (m : ℕ) → IsFrom start most f d m → length d ≡ length f - m
long_from start most f d m h = ap (λ (x : List (List ℕ)). length x) h.are ∙ length-drop m f

says_from : (start most : ℕ) (f d : List (List ℕ)) (m k : ℕ) → IsFrom start most f d m → k < length d
    → IsSoundAt start most f (m + k) (reading (get_or d k []))
says_from start most f d m k h l = subst (λ p. IsSoundAt start most f (m + k) (reading p)) (grind (arith, packet_from))
    (h.sound.says (m + k) (let i = h.inside in omega (arith, l, i, long_from start most f d m h)))

-- ---- the anchor

marked_from : (start most : ℕ) (f d : List (List ℕ)) (m : ℕ) → IsFrom start most f d m → IsMarked (syncs d)
unfolding syncs
marked_from start most f d m h = λ k l.
    let i = h.inside in
    let z = h.mark in
    let w : k < length d = omega (arith, l, length-syncs d) in
    let same : (m + k) % 624 ≡ k % 624 = omega (arith, z) in
    ap (λ (b : ℕ). b == 0xB8) (get_or-map sync_of d k [] 0 w ∙ ap sync_of (packet_from start most f d m k h))
    ∙ h.sound.marks (m + k) (omega (arith, w, i, long_from start most f d m h)) ∙ ap (λ (n : ℕ). n == 0) same

anchor_from : (start most : ℕ) (f d : List (List ℕ)) (m k : ℕ) → IsFrom start most f d m → k < length d
    → anchor_of (take (k + 1) d) ≡ Some 0
unfolding anchor_of syncs
anchor_from start most f d m k h l =
    let a : IsAnchored [] (syncs d) 0 = grind (arith, anchored, marked_from, length-syncs) in
    let w = a.within in
    let z : a.place ≡ 0 = omega (arith, w) in
    ap anchor (sym (take-map sync_of (k + 1) d)) ∙ a.holds k (omega arith) (omega (arith, l, length-syncs d))
    ∙ ap Some z

no_anchor_yet : (d : List (List ℕ)) → anchor_of (take 0 d) ≡ None
no_anchor_yet d = no_anchor [] under_nothing

-- ---- what packets order

pub reads_ok : (p : List ℕ) (ops : Ops) → reads p ≡ Some ops → reading p ≡ Ok ops
unfolding reads
reads_ok p ops e = grind arith

picked : (b : Bool) (x ops : Ops) → cond b (Some x) None ≡ Some ops → x ≡ ops
picked true x ops e = cc
picked false x ops e = cc

ordered_some : (place : ℕ) (o : Option Ops) (ops : Ops) → ordered place o ≡ Some ops → o ≡ Some ops
ordered_some place None ops e = cc
ordered_some place (Some x) ops e = ap Some (picked (x.index == place) x ops e)

-- packet n reads so
pub record Reads (d : List (List ℕ)) (n : ℕ) (ops : Ops) : Type 0 where
  pub inside : n < length d
  pub reads_so : reading (get_or d n []) ≡ Ok ops

ordered_reads : (d : List (List ℕ)) (n : ℕ) (ops : Ops) → ordered_at (readings d) n ≡ Some ops → Reads d n ops
unfolding readings
ordered_reads d n ops e = by_place (cases_lt n (length d)) (ordered_some (n % 624) (get_or (readings d) n None) ops e)
  where
    by_place : (n < length d) ⊎ (length d ≤ n) → get_or (readings d) n None ≡ Some ops → Reads d n ops
    by_place (inl l) h = record {
      inside = l;
      reads_so = reads_ok (get_or d n []) ops (sym (get_or-map reads d n [] None l) ∙ h);
    }
    by_place (inr g) h = absurd (none_some (sym (get_or_past (readings d) n None
        (omega (arith, g, length-map d reads))) ∙ h))
      where
        none_some : ◌≡◌ {A = Option Ops} None (Some ops) → ⊥
        none_some e = cc

either_some : (x y : Option Ops) (ops : Ops) → either x y ≡ Some ops → (x ≡ Some ops) ⊎ (y ≡ Some ops)
either_some None y ops e = inr e
either_some (Some x) y ops e = inl e

-- one of a group's four packets reads as what it orders
pub record ReadsIn (d : List (List ℕ)) (g : ℕ) (ops : Ops) : Type 0 where
  pub packet : ℕ
  pub from : g ≤ packet
  pub within : packet < g + 4
  pub so : Reads d packet ops

order_reads : (d : List (List ℕ)) (g : ℕ) (ops : Ops) → order_at (readings d) g ≡ Some ops → ReadsIn d g ops
unfolding order_at
order_reads d g ops e = elim (either_some (f g) _ ops e) [
  | inl h ↦ at g (omega arith) (omega arith) h
  | inr h ↦ by_second (either_some (f (g + 1)) (either (f (g + 2)) (f (g + 3))) ops h)
]
  where
    f : ℕ → Option Ops
    f n = ordered_at (readings d) n

    at : (n : ℕ) → g ≤ n → n < g + 4 → f n ≡ Some ops → ReadsIn d g ops
    at n l m h = record { packet = n; from = l; within = m; so = ordered_reads d n ops h }

    by_third : (f (g + 2) ≡ Some ops) ⊎ (f (g + 3) ≡ Some ops) → ReadsIn d g ops
    by_third (inl h) = at (g + 2) (omega arith) (omega arith) h
    by_third (inr h) = at (g + 3) (omega arith) (omega arith) h

    by_second : (f (g + 1) ≡ Some ops) ⊎ (either (f (g + 2)) (f (g + 3)) ≡ Some ops) → ReadsIn d g ops
    by_second (inl h) = at (g + 1) (omega arith) (omega arith) h
    by_second (inr h) = by_third (either_some (f (g + 2)) (f (g + 3)) ops h)

some_counted : (b : Bool) (o : Option Ops) (ops : Ops) → cond b o None ≡ Some ops → o ≡ Some ops
some_counted true o ops e = e
some_counted false o ops e = cc

counted_reads : (d : List (List ℕ)) (g : ℕ) (ops : Ops) → counting_order (readings d) g ≡ Some ops → ReadsIn d g ops
unfolding counting_order
counted_reads d g ops e =
    order_reads d g ops (some_counted (nat_le 52 g && (g % 4 == 0)) (order_at (readings d) g) ops e)

says_so : (start most : ℕ) (f d : List (List ℕ)) (m n : ℕ) (ops : Ops) → IsFrom start most f d m → Reads d n ops
    → SaysAt start most f (m + n) ops
says_so start most f d m n ops h r =
    subst (IsSoundAt start most f (m + n)) r.reads_so (says_from start most f d m n h r.inside)

-- ---- the states

-- those that the coders have from an order on are the feed's own
states_right : (start most : ℕ) (f d : List (List ℕ)) (m i : ℕ) (order : Order) (older : List Order)
    → IsFrom start most f d m → i % 4 ≡ 0 → i + 4 ≤ length d → 52 ≤ i → orders (readings d) (i - 4) ≡ order ∷ older
    → states (take (m + i) f) ≡ states_since (order.place / 4) order.ops.states (take i d)
states_right start most f d m i order older h w l far e =
    let st : Stands (readings d) (i - 4 + 1) order = force_stands (readings d) (i - 4) order older e in
    let b : IsBehind order.place = counted_behind (readings d) order.place order.ops st.counts in
    let r : ReadsIn d order.place order.ops = counted_reads d order.place order.ops st.counts in
    let says : SaysAt start most f (m + r.packet) order.ops = says_so start most f d m r.packet order.ops h r.so in
    let z = h.mark in let inside = h.inside in let x1 = b.flushed in let x2 = b.whole in let x3 = st.below in
    let r1 = r.from in let r2 = r.within in
    let x : ℕ = order.place in
    let g : ℕ = (m + x) / 4 in
    let a : List (List ℕ) = take m f in
    let s : List (List ℕ) = take i d in
    let la : length a ≡ m = length-take-le m f (omega (arith, inside)) in
    let ls : length s ≡ i = length-take-le i d (omega (arith, l)) in
    let at : 4 * g ≡ m + x = omega (arith, z, x2) in
    let place : 4 * ((m + r.packet) / 4) ≡ 4 * g = omega (arith, z, x2, r1, r2) in
    let all : take (m + i) f ≡ a ++ s = take_parts m i f ∙ ap (λ y. a ++ take i y) (sym h.are) in
    let own : order.ops.states ≡ states (take (4 * g) (a ++ s)) = grind (arith, take-take) in
    ap states all ∙ states_from_group (a ++ s) g (omega (arith, at, x3, far, la, ls, length-append a s))
    ∙ ap (λ q. states_since g q (a ++ s)) (sym own)
    ∙ states_mark a s x g order.ops.states (omega (arith, la, z)) (omega (arith, ls, w)) x1 x2 (omega (arith, at, la))

bytes_same : (xs ys : List ℕ) → xs ≡ ys → bytes_eq xs ys ≡ true
bytes_same xs ys e = let d = bytes_eq-Decides xs ys in d.1 e

early_calm : ◌≡◌ {A = StatesNote} states_are.Early states_are.Slip → ⊥
early_calm e = cc

first_calm : ◌≡◌ {A = StatesNote} states_are.First states_are.Slip → ⊥
first_calm e = cc

right_calm : ◌≡◌ {A = StatesNote} states_are.Right states_are.Slip → ⊥
right_calm e = cc

states_calm : (start most : ℕ) (f d : List (List ℕ)) (m k : ℕ) (ops : Ops) → IsFrom start most f d m → Reads d k ops
    → states_note (expected_at d (4 * (k / 4))) ops ≢ states_are.Slip
states_calm start most f d m k ops h r = by_place (cases_lt (4 * (k / 4)) 52) (cases_lt (length d) (4 * (k / 4) + 4))
  where
    i : ℕ
    i = 4 * (k / 4)

    says : SaysAt start most f (m + k) ops
    says = says_so start most f d m k ops h r

    own : ops.states ≡ states (take (m + i) f)
    own =
        let z = h.mark in
        says.states_are ∙ ap (λ n. states (take n f)) (omega (arith, z))

    by_orders : 52 ≤ i → i + 4 ≤ length d → (os : List Order) → orders (readings d) (i - 4) ≡ os
        → states_note (expected_by d i os) ops ≢ states_are.Slip
    by_orders far l [] e = first_calm
    by_orders far l (order ∷ older) e =
        let q : List ℕ = states_since (order.place / 4) order.ops.states (take i d) in
        let same : ops.states ≡ q = own ∙ states_right start most f d m i order older h (omega arith) l far e in
        λ slip. right_calm (sym (grind (arith, cond-true, bytes_same)) ∙ slip)

    by_place : (i < 52) ⊎ (52 ≤ i) → (length d < i + 4) ⊎ (i + 4 ≤ length d)
        → states_note (expected_at d i) ops ≢ states_are.Slip
    by_place (inl l) y = λ slip. early_calm (sym (ap (λ x. states_note x ops) (early d i l)) ∙ slip)
    by_place (inr far) (inl l) = λ slip. early_calm (sym (ap (λ x. states_note x ops) (not_whole d i l)) ∙ slip)
    by_place (inr far) (inr l) = λ slip.
        by_orders far l (orders (readings d) (i - 4)) refl (sym (ap (λ x. states_note x ops) (counts d i far l)) ∙ slip)

-- ---- the clock

-- the latest value is that of some number below n
pub record IsLatest (g : ℕ → Option Ops) (n : ℕ) (ops : Ops) : Type 0 where
  pub number : ℕ
  pub below : number < n
  pub is : g number ≡ Some ops

latest_is : (g : ℕ → Option Ops) (n : ℕ) (ops : Ops) → latest g n ≡ Some ops → IsLatest g n ops
latest_is g zero ops e = cc
latest_is g (suc n) ops e = by_last (either_some (g n) (latest g n) ops e) (λ h. latest_is g n ops h)
  where
    by_last : (g n ≡ Some ops) ⊎ (latest g n ≡ Some ops) → (latest g n ≡ Some ops → IsLatest g n ops)
        → IsLatest g (suc n) ops
    by_last (inl h) rest = record { number = n; below = omega arith; is = h }
    by_last (inr h) rest = grind arith

first_runs : ◌≡◌ {A = ClockNote} clock_is.First clock_is.Jump → ⊥
first_runs e = cc

right_runs : ◌≡◌ {A = ClockNote} clock_is.Right clock_is.Jump → ⊥
right_runs e = cc

between : (x y : ℕ) → x ≤ y → y < 4294967296 → (y + 4294967296 - x) % 4294967296 ≡ y - x
between x y l h = omega (arith, l, h)

clock_right : (start most : ℕ) (f : List (List ℕ)) (j k : ℕ) (before ops : Ops) → SaysAt start most f j before
    → SaysAt start most f k ops → j ≤ k → clock_note (Some (stamp_in before)) ops ≡ clock_is.Right
clock_right start most f j k before ops b o l = grind (arith, between, stamps_run, cond-true, and_from, eq-eqb)

clock_calm : (start most : ℕ) (f d : List (List ℕ)) (m k : ℕ) (ops : Ops) → IsFrom start most f d m → Reads d k ops
    → clock_note (stamped_before d k) ops ≢ clock_is.Jump
unfolding stamped_before
clock_calm start most f d m k ops h r = by_latest (latest (ordered_at (readings d)) k) refl
  where
    by_latest : (o : Option Ops) → latest (ordered_at (readings d)) k ≡ o
        → clock_note (option_map stamp_in o) ops ≢ clock_is.Jump
    by_latest None e = first_runs
    by_latest (Some before) e =
        let at : IsLatest (ordered_at (readings d)) k before = latest_is (ordered_at (readings d)) k before e in
        let b = at.below in
        λ jump. right_runs (sym (clock_right start most f (m + at.number) (m + k) before ops
        (says_so start most f d m at.number before h (ordered_reads d at.number before at.is))
        (says_so start most f d m k ops h r) (omega (arith, b))) ∙ jump)

-- ---- all of it

pub calm : (start most : ℕ) (f d : List (List ℕ)) (m k : ℕ) → IsFrom start most f d m → k < length d → IsCalmAt d k
unfolding notes_at note_under
calm start most f d m k h l = by_reading (reading (get_or d k [])) refl
  where
    lock : List Note
    lock = cond (k == 0) ((record { packet = 0; what = Lock }) ∷ []) []

    place : (m + k) % 624 ≡ k % 624
    place = let z = h.mark in omega (arith, z)

    locked : (j : ℕ) → k ≡ j → one_or_none (lock_note k (anchor_of (take k d)) (Some 0)) ≡ lock
    locked zero e = ap (λ n. one_or_none (lock_note k (anchor_of (take n d)) (Some 0))) e
        ∙ ap (λ o. one_or_none (lock_note k o (Some 0))) (no_anchor_yet d)
        ∙ ap (λ n. (record { packet = n; what = Lock }) ∷ []) e
        ∙ sym (cond-true (k == 0) ((record { packet = 0; what = Lock }) ∷ []) [] (eq-eqb k 0 e))
    locked (suc j) e =
        let q : j + 1 ≡ k = omega (arith, e) in
        ap (λ n. one_or_none (lock_note k (anchor_of (take n d)) (Some 0))) (sym q)
        ∙ ap (λ o. one_or_none (lock_note k o (Some 0))) (anchor_from start most f d m j h (omega (arith, l, q)))
        ∙ sym (cond-false (k == 0) ((record { packet = 0; what = Lock }) ∷ []) []
        (ne_eqb k 0 (λ z. omega (arith, z, q))))

    rest : Result Ops OpsNo → List Note
    rest r = one_or_none (packet_note k (Some (k % 624)) (expected_at d (4 * (k / 4))) (stamped_before d k) r)

    all : (r : Result Ops OpsNo) → reading (get_or d k []) ≡ r → notes_at d k ≡ lock ++ rest r
    all r e =
        let less : k - 0 ≡ k = omega arith in
        ap (λ o. one_or_none (lock_note k (anchor_of (take k d)) o) ++ one_or_none (reading_note d k o))
        (anchor_from start most f d m k h l) ∙ ap₂ (λ xs n. xs ++ one_or_none (note_under d k n)) (locked k refl) less
        ∙ ap (λ x. lock ++ rest x) e

    by_reading : (r : Result Ops OpsNo) → reading (get_or d k []) ≡ r → IsCalmAt d k
    by_reading (Ok ops) e =
        let r : Reads d k ops = record { inside = l; reads_so = e } in
        let says : SaysAt start most f (m + k) ops = says_so start most f d m k ops h r in
        let index : ops.index ≡ k % 624 = says.index ∙ place in
        let o = ops_note (expected_at d (4 * (k / 4))) (stamped_before d k) ops in
        let note : rest (Ok ops) ≡ (record { packet = k; what = OpsAt o }) ∷ [] =
        ap (λ w. (record { packet = k; what = w }) ∷ []) (cond-true (ops.index == k % 624) (OpsAt o) _
        (eq-eqb ops.index (k % 624) index)) in (
          rest (Ok ops),
          subst (λ x. IsCalm k x (rest (Ok ops))) (sym e) (grind (arith, states_calm, clock_calm)),
          all (Ok ops) e,
        )
    by_reading (Err refusal) e =
        let none : refusal ≡ NotOps = subst (IsSoundAt start most f (m + k)) e (says_from start most f d m k h l) in
        let same : rest (Err refusal) ≡ [] = ap (λ x. rest (Err x)) none in (
          rest (Err refusal),
          subst (λ x. IsCalm k x (rest (Err refusal))) (sym e) same,
          all (Err refusal) e,
        )
