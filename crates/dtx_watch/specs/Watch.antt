-- The notes on the packets of a feed (the profile's own). Packets may hold any bytes, and are counted from 0. Anchors,
-- places, readings and orders are those of an exciter that is given the packets.
use Rattle.std.specs.Prelude.{ℕ, ◌+◌, ◌-◌, ◌*◌, ◌/◌, ◌%◌, ◌==◌, nat_le, ◌&&◌, Option, Some, None, option_map}
use Rattle.std.specs.Prelude.{if◌then◌else◌, List, [], ◌∷◌, ◌++◌, length, take, drop, slice_index_or}
use Rattle.std.specs.List.{range_with_len, flat_map}
use Rattle.std.proofs.Common.{zero, suc}
use Rattle.dtx_coder.specs.Along.{states_since}
use Rattle.dtx_ops.specs.Reading.{reading}
use Rattle.dtx_exciter.specs.Order.{Order, either, ordered_at, orders}
use Rattle.dtx_exciter.specs.Packets.{readings, anchor_of, group_part}
use Rattle.dtx_watch.specs.declared.notes.Note.{Note}
use Rattle.dtx_watch.specs.declared.notes.NoteKind.TheVariants.{Lock}
use Rattle.dtx_watch.specs.declared.stamped.Stamped.{Stamped}
use Rattle.dtx_watch.specs.declared.telling.Expected.{Expected}
use Rattle.dtx_watch.specs.declared.telling.Expected.TheVariants.{Early, First, These}
use Rattle.dtx_watch.specs.Clock.{stamp_in}
use Rattle.dtx_watch.specs.Notes.{packet_note, lock_note, one_or_none}

-- ---- under an anchor: packets are counted from it

-- the states that the coders have before the group from i on, if before the latest order's group they have that order's
-- states
abbrev pub expected_by : List (List ℕ) → ℕ → List Order → Expected
expected_by packets i [] = First
expected_by packets i (order ∷ older) = These (states_since (order.place / 4) order.ops.states (take i packets))

-- What the states of an operations packet of the group from i on are compared with. They are compared with nothing if
-- the group begins less than 52 packets behind the anchor or isn't whole, or if no earlier group is an order.
unfoldable pub expected_at : List (List ℕ) → ℕ → Expected
expected_at packets i =
    if nat_le 52 i && nat_le (i + 4) (length packets) then expected_by packets i (orders (readings packets) (i - 4))
    else Early

-- the value at the greatest number below n that has one
abbrev pub latest : {A : Type 0} → (ℕ → Option A) → ℕ → Option A
latest f zero = None
latest f (suc n) = either (f n) (latest f n)

-- the latest operations packet before packet m that reads and whose index is its place
unfoldable pub stamped_before : List (List ℕ) → ℕ → Option Stamped
stamped_before packets m = option_map stamp_in (latest (ordered_at (readings packets)) m)

-- the note on what packet m reads as, which is packet k of all
unfoldable pub note_under : List (List ℕ) → ℕ → ℕ → Option Note
note_under packets k m =
    packet_note k (Some (m % 624)) (expected_at packets (4 * (m / 4))) (stamped_before packets m)
    (reading (slice_index_or packets m []))

-- The notes on the first n packets of the group from i on, the first of which is packet k of all. If the group is the
-- first under the anchor, the first note is that its first packet is the anchor.
unfoldable pub group_notes : List (List ℕ) → ℕ → ℕ → ℕ → List Note
group_notes packets k i n =
    (if i == 0 then (record { packet = k; what = Lock }) ∷ [] else [])
    ++ flat_map (λ m. one_or_none (note_under packets (k + m) (i + m))) (range_with_len 0 n)

-- ---- all packets

-- the note on what packet k reads as, under this anchor
abbrev pub reading_note : List (List ℕ) → ℕ → Option ℕ → Option Note
reading_note packets k None = packet_note k None Early None (reading (slice_index_or packets k []))
reading_note packets k (Some anchor) = note_under (drop anchor packets) k (k - anchor)

-- the notes on packet k: what becomes of the anchor with it, and what it reads as
unfoldable pub notes_at : List (List ℕ) → ℕ → List Note
notes_at packets k =
    one_or_none (lock_note k (anchor_of (take k packets)) (anchor_of (take (k + 1) packets)))
    ++ one_or_none (reading_note packets k (anchor_of (take (k + 1) packets)))

-- the notes on the first n packets
unfoldable pub notes_to : List (List ℕ) → ℕ → List Note
notes_to packets n = flat_map (notes_at packets) (range_with_len 0 n)

-- the notes on all packets, in their order
abbrev pub watch : List (List ℕ) → List Note
watch packets = notes_to packets (length packets)

-- The notes on the packets before the group at hand. Without an anchor they are the notes on all packets.
abbrev pub told : List (List ℕ) → List Note
told packets = notes_to packets (length packets - group_part packets)

-- the notes on the packets of the group at hand, which wait for its end or the end of the packets
abbrev pub waiting : List (List ℕ) → List Note
waiting packets = flat_map (notes_at packets) (range_with_len (length packets - group_part packets) (group_part
    packets))
