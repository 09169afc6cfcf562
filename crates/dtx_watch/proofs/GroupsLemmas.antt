-- What is told of a group at hand is what is told of the packets under the anchor.
use Rattle.std.proofs.Common.{◌≡◌, ℕ, zero, suc, ◌+◌, ◌%◌, ◌<◌, ◌≤◌, Option, Some, None, option_map, List, [], ◌++◌}
use Rattle.std.proofs.Common.{length, get_or, refl, sym, ap, ap₂, ◌∙◌, arith}
use Rattle.std.specs.List.{range_with_len, flat_map}
use Rattle.std.proofs.lemmas.List.{get_or-map, length-append, append-nil}
use Rattle.std.proofs.lemmas.Grind.{flat_map-append}
use Rattle.dtx_lists.proofs.Range.{range_with_len-parts}
use Rattle.dtx_lists.proofs.RangeMoved.{flat_map-range_same}
use Rattle.dtx_ops.specs.declared.fields.Ops.{Ops}
use Rattle.dtx_exciter.specs.Order.{either, ordered_at, order_at}
use Rattle.dtx_exciter.specs.Packets.{readings}
use Rattle.dtx_watch.specs.declared.notes.Note.{Note}
use Rattle.dtx_watch.specs.Clock.{stamp_in}
use Rattle.dtx_watch.specs.Notes.{one_or_none}
use Rattle.dtx_watch.specs.Watch.{latest, expected_at, stamped_before, note_under}
use Rattle.dtx_watch.specs.Step.{Group, order_of, stamped_in, earliest, note_in, notes_in}

-- ---- a first and a second value

pub either_either : {A : Type 0} (x y z : Option A) → either (either x y) z ≡ either x (either y z)
either_either None y z = refl
either_either (Some x) y z = refl

pub map_either : {A B : Type 0} (f : A → B) (x y : Option A)
    → option_map f (either x y) ≡ either (option_map f x) (option_map f y)
map_either f None y = refl
map_either f (Some x) y = refl

pub latest_same : {A : Type 0} (f g : ℕ → Option A) (n : ℕ) → ((k : ℕ) → k < n → f k ≡ g k) → latest f n ≡ latest g n
latest_same f g zero h = refl
latest_same f g (suc n) h = ap₂ either (h n (omega arith)) (latest_same f g n (λ k l. h k (omega arith)))

-- the latest among more is that among those behind, or else the one before
latest_parts : {A : Type 0} (f : ℕ → Option A) (i n : ℕ)
    → latest f (i + n) ≡ either (latest (λ m. f (i + m)) n) (latest f i)
latest_parts f i zero = let e : i + 0 ≡ i = omega arith in ap (latest f) e
latest_parts f i (suc n) =
    let e : i + suc n ≡ suc (i + n) = omega arith in
    ap (latest f) e ∙ ap (either (f (i + n))) (latest_parts f i n) ∙ sym (grind (arith, either_either))

pub latest_more : {A : Type 0} (f : ℕ → Option A) (n : ℕ) → latest f (n + 1) ≡ either (f n) (latest f n)
latest_more f n = let e : n + 1 ≡ suc n = omega arith in ap (latest f) e

pub earliest_more : {A : Type 0} (f : ℕ → Option A) (n : ℕ) → earliest f (n + 1) ≡ either (earliest f n) (f n)
earliest_more f n = let e : n + 1 ≡ suc n = omega arith in ap (earliest f) e

-- ---- one packet of a group more

pub stamped_none : (g : Group) → stamped_in g 0 ≡ g.before
unfolding stamped_in
stamped_none g = refl

pub stamped_more : (g : Group) (m : ℕ)
    → stamped_in g (m + 1) ≡ either (option_map stamp_in (order_of g m)) (stamped_in g m)
unfolding stamped_in
stamped_more g m = grind (arith, latest_more, map_either, either_either)

pub notes_none : (g : Group) → notes_in g 0 ≡ []
unfolding notes_in
notes_none g = refl

pub notes_more : (g : Group) (m : ℕ) → notes_in g (m + 1) ≡ notes_in g m ++ one_or_none (note_in g m)
unfolding notes_in
notes_more g m = grind (arith, range_with_len-parts, flat_map-append, append-nil)

one_at_most : (o : Option Note) → length (one_or_none o) ≤ 1
one_at_most None = omega arith
one_at_most (Some note) = omega arith

pub few_notes : (g : Group) (m : ℕ) → length (notes_in g m) ≤ m
few_notes g zero = omega (arith, ap (λ (ns : List Note). length ns) (notes_none g))
few_notes g (suc m) =
    let e : m + 1 ≡ suc m = omega arith in
    omega (
      arith,
      ap (λ (n : ℕ). length (notes_in g n)) e,
      ap (λ (ns : List Note). length ns) (notes_more g m),
      length-append (notes_in g m) (one_or_none (note_in g m)),
      one_at_most (note_in g m),
      few_notes g m,
    )

-- ---- a group among the packets under the anchor

-- the group at hand is that of these packets from i on, of which n are given
pub record IsAtHand (g : Group) (l : List (List ℕ)) (i n : ℕ) : Type 0 where
  pub place : g.place ≡ i % 624
  pub whole : i % 4 ≡ 0
  pub expected : g.expected ≡ expected_at l i
  pub before : g.before ≡ stamped_before l i
  pub packets : (m : ℕ) → m < n → get_or g.packets m [] ≡ get_or l (i + m) []
  pub inside : i + n ≤ length l
  pub few : n ≤ 4

place_at : (g : Group) (l : List (List ℕ)) (i n m : ℕ) → IsAtHand g l i n → m < n → g.place + m ≡ (i + m) % 624
place_at g l i n m h k = let a = h.place in let b = h.whole in let c = h.few in omega (arith, a, b, c, k)

order_same : (g : Group) (l : List (List ℕ)) (i n m : ℕ) → IsAtHand g l i n → m < n
    → order_of g m ≡ ordered_at (readings l) (i + m)
unfolding readings
order_same g l i n m h k = grind (arith, place_at, get_or-map)

pub stamped_at_hand : (g : Group) (l : List (List ℕ)) (i n m : ℕ) → IsAtHand g l i n → m ≤ n
    → stamped_in g m ≡ stamped_before l (i + m)
unfolding stamped_in stamped_before
stamped_at_hand g l i n m h k = grind (arith, latest_same, order_same, latest_parts, map_either)

-- the first of four orders is the group's
pub order_at_hand : (g : Group) (l : List (List ℕ)) (i : ℕ) → IsAtHand g l i 4
    → earliest (order_of g) 4 ≡ order_at (readings l) i
unfolding order_at
order_at_hand g l i h =
    let f : ℕ → Option Ops = ordered_at (readings l) in
    let e : i + 0 ≡ i = omega arith in
    grind (arith, order_same, either_either) ∙ either_either (f i) (f (i + 1)) (either (f (i + 2)) (f (i + 3)))

note_same : (g : Group) (l : List (List ℕ)) (i n m : ℕ) → IsAtHand g l i n → m < n
    → note_in g m ≡ note_under l (g.number + m) (i + m)
unfolding note_in note_under
note_same g l i n m h k = grind (arith, place_at, stamped_at_hand)

pub notes_at_hand : (g : Group) (l : List (List ℕ)) (i n : ℕ) → IsAtHand g l i n
    → notes_in g n ≡ flat_map (λ m. one_or_none (note_under l (g.number + m) (i + m))) (range_with_len 0 n)
unfolding notes_in
notes_at_hand g l i n h = grind (arith, flat_map-range_same, note_same)
