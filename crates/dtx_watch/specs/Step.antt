-- The notes on one group, from what a watcher keeps.
use Rattle.std.specs.Prelude.{ℕ, ◌≡◌, ◌+◌, ◌-◌, ◌%◌, ◌==◌, nat_le, ◌&&◌, ◌||◌, not, false, Option, Some, None}
use Rattle.std.specs.Prelude.{option_map, is_some, if◌then◌else◌, List, [], ◌∷◌, ◌++◌, slice_index_or}
use Rattle.std.specs.List.{range_with_len, flat_map}
use Rattle.std.specs.Option.{unwrap_or}
use Rattle.dtx_coder.specs.Groups.{after_group}
use Rattle.dtx_coder.specs.Groups as coder
use Rattle.std.proofs.Common.{zero, suc}
use Rattle.dtx_ops.specs.declared.fields.Ops.{Ops}
use Rattle.dtx_ops.specs.Reading.{reading}
use Rattle.dtx_exciter.specs.Order.{either, ordered}
use Rattle.dtx_exciter.specs.Packets.{reads}
use Rattle.dtx_exciter.specs.Step.{bytes_of}
use Rattle.dtx_watch.specs.declared.notes.Note.{Note}
use Rattle.dtx_watch.specs.declared.notes.NoteKind.TheVariants.{Lock}
use Rattle.dtx_watch.specs.declared.stamped.Stamped.{Stamped}
use Rattle.dtx_watch.specs.declared.telling.Expected.{Expected}
use Rattle.dtx_watch.specs.declared.telling.Expected.TheVariants.{Early, First, These}
use Rattle.dtx_watch.specs.declared.watcher.Watcher.{Watcher}
use Rattle.dtx_watch.specs.Clock.{stamp_in}
use Rattle.dtx_watch.specs.Notes.{packet_note, one_or_none}
use Rattle.dtx_watch.specs.Watch.{latest}

-- The group at hand: the number and the place of its first packet, what its states are compared with, the latest
-- operations packet before it, and its packets.
pub record Group : Type 0 where
  pub number : ℕ
  pub place : ℕ
  pub expected : Expected
  pub before : Option Stamped
  pub packets : List (List ℕ)

abbrev pub group_at_hand : Watcher → Expected → Group
group_at_hand w expected = record {
  number = w.count - w.part;
  place = w.first;
  expected = expected;
  before = w.latest;
  packets = bytes_of w.packets;
}

-- the order in packet m of the group
abbrev pub order_of : Group → ℕ → Option Ops
order_of g m = ordered (g.place + m) (reads (slice_index_or g.packets m []))

-- the latest operations packet at its place before packet m of the group
unfoldable pub stamped_in : Group → ℕ → Option Stamped
stamped_in g m = either (option_map stamp_in (latest (order_of g) m)) g.before

-- the value at the least number below n that has one
abbrev pub earliest : {A : Type 0} → (ℕ → Option A) → ℕ → Option A
earliest f zero = None
earliest f (suc n) = either (earliest f n) (f n)

-- the note on packet m of the group
unfoldable pub note_in : Group → ℕ → Option Note
note_in g m =
    packet_note (g.number + m) (Some (g.place + m)) g.expected (stamped_in g m)
    (reading (slice_index_or g.packets m []))

-- the notes on its first n packets
unfoldable pub notes_in : Group → ℕ → List Note
notes_in g n = flat_map (λ m. one_or_none (note_in g m)) (range_with_len 0 n)

-- what the states of the group at hand are compared with, if the group is whole
abbrev pub expected_of : Watcher → Expected
expected_of w = if not w.flushed then Early else if not w.ordered then First else These w.coder.states

-- the note that its first packet is an anchor, if the group is the first under one
abbrev pub lock_notes : Watcher → List Note
lock_notes w =
    if (w.first == 0) && not w.flushed then (record { packet = w.count - w.part; what = Lock }) ∷ [] else []

-- the states in the first operations packet at its place of a whole group, if the group counts
unfoldable pub states_in : Watcher → Option (List ℕ)
states_in w =
    if w.flushed then option_map (λ o. o.states) (earliest (order_of (group_at_hand w (expected_of w))) 4) else None

-- the group at hand as it is given to the coder
unfoldable pub group_of : Watcher → coder.Group
group_of w = record {
  first = w.first % 312;
  second = nat_le 312 w.first;
  sync = false;
  from = unwrap_or (states_in w) w.coder.states;
  packets = bytes_of w.packets;
}

-- the watcher after a whole group, and the notes that it gives
pub record IsEnded (old new : Watcher) (given : List Note) : Type 0 where
  pub notes : given ≡ lock_notes old ++ notes_in (group_at_hand old (expected_of old)) 4
  pub made : new ≡ record old {
    latest = stamped_in (group_at_hand old (expected_of old)) 4;
    ordered = old.ordered || is_some (states_in old);
    coder = after_group old.coder (group_of old);
    air = new.air;
  }

-- the count of packets and the anchor stay
pub record IsSame (old new : Watcher) : Type 0 where
  pub count : new.count ≡ old.count
  pub anchor : new.anchor ≡ old.anchor
