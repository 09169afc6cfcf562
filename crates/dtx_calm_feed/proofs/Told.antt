-- What the words for the states and for the clock say.
use Rattle.std.proofs.Common.{◌≡◌, ◌≢◌, ℕ, ◌+◌, ◌-◌, ◌/◌, ◌==◌, ◌&&◌, ◌↔◌, Bool, Some, None, List, take, get_or, sym}
use Rattle.std.proofs.Common.{ap, ◌∙◌, arith}
use Rattle.std.proofs.lemmas.Bool.{and_from, and_parts, cases_lt, cond-false, cond-true, eq-eqb, eqb-true}
use Rattle.std.proofs.lemmas.Slice.Eq.{bytes_eq-Decides}
use Rattle.dtx_clock.specs.Clock.{runs}
use Rattle.dtx_coder.specs.Along.{RunsAlong, states_since}
use Rattle.dtx_coder.proofs.AlongLemmas.{states_along}
use Rattle.dtx_coder.specs.Groups.{Coding}
use Rattle.dtx_ops.specs.declared.fields.Ops.{Ops}
use Rattle.dtx_exciter.proofs.ForceLemmas.{Stands, counted_behind, force_stands}
use Rattle.dtx_exciter.specs.Order.{Order}
use Rattle.dtx_exciter.specs.Packets.{readings}
use Rattle.dtx_watch.specs.Clock.{clock_note, frames_between}
use Rattle.dtx_watch.specs.Notes.{states_note}
use Rattle.dtx_watch.proofs.ToldLemmas.{counts, early, not_whole}
use Rattle.dtx_watch.specs.Watch.{expected_at, stamped_before}
use Rattle.dtx_watch.specs.declared.notes.ClockNote.{ClockNote}
use Rattle.dtx_watch.specs.declared.notes.ClockNote.TheVariants as clock_is
use Rattle.dtx_watch.specs.declared.notes.StatesNote.{StatesNote}
use Rattle.dtx_watch.specs.declared.notes.StatesNote.TheVariants as states_are
use Rattle.dtx_calm_feed.specs.Said.{AreSaid, Follows, IsClockSaid, IsLatestOrder, latest_before}

-- ---- the states

-- those that the coders have before the group from i on, from this order on
abbrev states_from : List (List ℕ) → ℕ → Order → List ℕ
states_from l i order = states_since (order.place / 4) order.ops.states (take i l)

one_latest : (l : List (List ℕ)) (i : ℕ) (x y : Order) → IsLatestOrder l i x → IsLatestOrder l i y → x ≡ y
one_latest l i x y o p = ap (λ (os : List Order). get_or os 0 x) (sym o.1 ∙ p.1)

pub states_said : (l : List (List ℕ)) (i : ℕ) (ops : Ops) (word : StatesNote)
    → (states_note (expected_at l i) ops ≡ word) ↔ AreSaid l i ops.states word
states_said l i ops word =
    grind (arith, cases_lt, early, not_whole, counts, bytes_eq-Decides, cond-true, cond-false, one_latest)

-- right states are those that a coder holds
pub right_held : (l : List (List ℕ)) (i : ℕ) (order : Order) (told : List ℕ) (coder : Coding)
    → AreSaid l i told states_are.Right → IsLatestOrder l i order
    → RunsAlong (take i l) (order.place / 4) order.ops.states coder → coder.states ≡ told
right_held l i order told coder h o r =
    let st : Stands (readings l) (i - 4 + 1) order = force_stands (readings l) (i - 4) order o.0 o.1 in
    let far = (counted_behind (readings l) order.place order.ops st.counts).flushed in
    let whole = (counted_behind (readings l) order.place order.ops st.counts).whole in
    states_along (take i l) (order.place / 4) order.ops.states coder r (omega (arith, far, whole))
    ∙ ap (states_from l i) (one_latest l i order h.1.0 o h.1.1) ∙ sym h.1.2

-- ---- the clock

-- the test by which the clock is told
abbrev is_later : Ops → Ops → Bool
is_later before ops =
    runs before.stamp ops.stamp (frames_between before.frame ops.frame) && (ops.max_delay == before.max_delay)

clock_told : (l : List (List ℕ)) (m : ℕ) (ops : Ops) → IsClockSaid l m ops (clock_note (stamped_before l m) ops)
unfolding stamped_before
clock_told l m ops = grind (arith, cond-true, eqb-true, and_parts, cond-false, and_from, eq-eqb)

none_some : (l : List (List ℕ)) (m : ℕ) (x : Ops) → latest_before l m ≡ None → latest_before l m ≡ Some x → ⊥
none_some l m x e f = let q : None ≡ Some x = sym e ∙ f in cc

some_same : (l : List (List ℕ)) (m : ℕ) (x y : Ops) → latest_before l m ≡ Some x → latest_before l m ≡ Some y → x ≡ y
some_same l m x y e f = let q : Some x ≡ Some y = sym e ∙ f in cc

pub clock_said : (l : List (List ℕ)) (m : ℕ) (ops : Ops) (word : ClockNote)
    → (clock_note (stamped_before l m) ops ≡ word) ↔ IsClockSaid l m ops word
clock_said l m ops word = grind (arith, clock_told, none_some, some_same)

-- no jump
pub clock_follows : (l : List (List ℕ)) (m : ℕ) (before ops : Ops) → latest_before l m ≡ Some before
    → clock_note (stamped_before l m) ops ≢ clock_is.Jump → Follows before ops
clock_follows l m before ops b h = grind (arith, clock_told, none_some, some_same)
