-- What each word of a watcher's text says of the packets (the profile's own).
use Rattle.std.specs.Prelude.{◌≡◌, ◌≢◌, ◌↔◌, ◌⊎◌, ℕ, ◌+◌, ◌-◌, ◌*◌, ◌/◌, ◌%◌, ◌≤◌, Option, Some, None, Ok, Err, List}
use Rattle.std.specs.Prelude.{[], ◌∷◌, drop, length, slice_index_or, take}
use Rattle.dtx_coder.specs.Along.{states_since}
use Rattle.dtx_ops.specs.Reading.{reading}
use Rattle.dtx_ops.specs.declared.fields.Ops.{Ops}
use Rattle.dtx_ops.specs.declared.refusal.OpsNo.TheVariants.{NotOps}
use Rattle.dtx_exciter.specs.Order.{Order, ordered_at, orders}
use Rattle.dtx_exciter.specs.Packets.{anchor_of, readings}
use Rattle.dtx_watch.specs.declared.notes.ClockNote.{ClockNote}
use Rattle.dtx_watch.specs.declared.notes.ClockNote.TheVariants as clock_is
use Rattle.dtx_watch.specs.declared.notes.Note.{Note}
use Rattle.dtx_watch.specs.declared.notes.OpsNote.{OpsNote}
use Rattle.dtx_watch.specs.declared.notes.StatesNote.{StatesNote}
use Rattle.dtx_watch.specs.declared.notes.StatesNote.TheVariants as states_are
use Rattle.dtx_watch.specs.declared.notes.NoteKind.{NoteKind}
use Rattle.dtx_watch.specs.declared.notes.NoteKind.TheVariants.{Lock, Lost, Unread, Stray, Ops as OpsAt}
use Rattle.dtx_watch.specs.Clock.{frames_between}
use Rattle.dtx_watch.specs.Watch.{latest}

-- ---- under an anchor: packets are counted from it

-- the group from i on begins 52 or more packets behind the anchor, and is whole
abbrev pub Counts : List (List ℕ) → ℕ → Type 0
Counts packets i = (52 ≤ i) × (i + 4 ≤ length packets)

-- the latest order of a group before the one from i on
abbrev pub IsLatestOrder : List (List ℕ) → ℕ → Order → Type 0
IsLatestOrder packets i order = (older : List Order) × (orders (readings packets) (i - 4) ≡ order ∷ older)

-- What the word for the states says of an operations packet with these states, in the group from i on. It says whether
-- they are those that the coders have before that group. The coders began with the states of the latest earlier order
-- before its group.
abbrev pub AreSaid : List (List ℕ) → ℕ → List ℕ → StatesNote → Type 0
AreSaid packets i states states_are.Early = Counts packets i → ⊥
AreSaid packets i states states_are.First = Counts packets i × (orders (readings packets) (i - 4) ≡ [])
AreSaid packets i states states_are.Right = Counts packets i × ((order : Order) × IsLatestOrder packets i order
    × (states ≡ states_since (order.place / 4) order.ops.states (take i packets)))
AreSaid packets i states states_are.Slip = Counts packets i × ((order : Order) × IsLatestOrder packets i order
    × (states ≢ states_since (order.place / 4) order.ops.states (take i packets)))

-- `ticks` is the length of `frames` frames modulo one second, rounded once to ticks, down or up
abbrev pub AreFrames : ℕ → ℕ → Type 0
AreFrames frames ticks = (ticks ≡ frames * 744789760 / 1539 % 10000000)
    ⊎ (ticks ≡ (frames * 744789760 + 1538) / 1539 % 10000000)

-- the stamp of an operations packet follows that of one before it, modulo one second, and the maximum delay is the same
abbrev pub Follows : Ops → Ops → Type 0
Follows before ops =
    AreFrames (frames_between before.frame ops.frame) ((ops.stamp + 10000000 - before.stamp % 10000000) % 10000000)
    × (ops.max_delay ≡ before.max_delay)

-- the latest operations packet before packet m that reads and whose index is its place
abbrev pub latest_before : List (List ℕ) → ℕ → Option Ops
latest_before packets m = latest (ordered_at (readings packets)) m

-- what the word for the clock says of operations packet m
abbrev pub IsClockSaid : List (List ℕ) → ℕ → Ops → ClockNote → Type 0
IsClockSaid packets m ops clock_is.First = latest_before packets m ≡ None
IsClockSaid packets m ops clock_is.Right =
    (before : Ops) × (latest_before packets m ≡ Some before) × Follows before ops
IsClockSaid packets m ops clock_is.Jump =
    (before : Ops) × (latest_before packets m ≡ Some before) × (Follows before ops → ⊥)

-- ---- all packets

-- Packet k is an operations packet at its place, and the note on it has its fields, a word for its states and one for
-- its clock. A word stands there exactly if what it says is true.
pub record IsOpsSaid (packets : List (List ℕ)) (k : ℕ) (o : OpsNote) : Type 0 where
  pub anchor : ℕ
  pub anchor_is : anchor_of (take (k + 1) packets) ≡ Some anchor
  pub ops : Ops
  pub reads_so : reading (slice_index_or packets k []) ≡ Ok ops
  pub at_place : ops.index ≡ (k - anchor) % 624
  pub frame : o.frame ≡ ops.frame
  pub index : o.index ≡ ops.index
  pub stamp : o.stamp ≡ ops.stamp
  pub max_delay : o.max_delay ≡ ops.max_delay
  pub listed : o.listed ≡ length ops.offsets.items
  pub states : (word : StatesNote) → (o.states ≡ word)
      ↔ AreSaid (drop anchor packets) (4 * ((k - anchor) / 4)) ops.states word
  pub clock : (word : ClockNote) → (o.clock ≡ word) ↔ IsClockSaid (drop anchor packets) (k - anchor) ops word

-- what the note says of packet k is true
abbrev pub IsWhatSaid : List (List ℕ) → ℕ → NoteKind → Type 0
IsWhatSaid packets k Lock =
    (anchor : ℕ) × (anchor_of (take k packets) ≡ None) × (anchor_of (take (k + 1) packets) ≡ Some anchor)
IsWhatSaid packets k Lost =
    (anchor : ℕ) × (anchor_of (take k packets) ≡ Some anchor) × (anchor_of (take (k + 1) packets) ≡ None)
IsWhatSaid packets k (Unread refusal) =
    (reading (slice_index_or packets k []) ≡ Err refusal) × (refusal ≢ NotOps)
IsWhatSaid packets k (Stray frame index) =
    (ops : Ops) × (reading (slice_index_or packets k []) ≡ Ok ops) × (frame ≡ ops.frame) × (index ≡ ops.index)
    × ((anchor : ℕ) → anchor_of (take (k + 1) packets) ≡ Some anchor → index ≢ (k - anchor) % 624)
IsWhatSaid packets k (OpsAt o) = IsOpsSaid packets k o

abbrev pub IsSaid : List (List ℕ) → Note → Type 0
IsSaid packets note = IsWhatSaid packets note.packet note.what
