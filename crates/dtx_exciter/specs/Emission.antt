-- The segments that an exciter gives (the profile's own, over the symbols of ATSC A/53 Part 2). Packets are counted
-- from the anchor, whose packet begins a first field.
use Rattle.std.specs.Prelude.{ℕ, ℤ, ◌≡◌, ◌+◌, ◌-◌, ◌*◌, ◌/◌, ◌%◌, ◌==◌, ◌&&◌, nat_le, Bool, Option, Some, None, is_ok}
use Rattle.std.specs.Prelude.{if◌then◌else◌, List, [], ◌∷◌, ◌++◌, length, take, slice_index_or, flat_map}
use Rattle.std.specs.List.{range_with_len}
use Rattle.dtx_frame.specs.Segments.{field_sync}
use Rattle.dtx_coder.specs.Stream.{four_segments, last_of, symbols_of}
use Rattle.dtx_coder.specs.Along.{levels_since}
use Rattle.dtx_ops.specs.declared.fields.Ops.{Ops}
use Rattle.dtx_exciter.specs.Order.{Order, orders}
use Rattle.dtx_exciter.specs.Told.{served, told_at, is_sent}
use Rattle.dtx_exciter.specs.Packets.{readings, under}

-- the four data segments of group u of these packets, if the coders have the states q before group g
unfoldable pub segments_since : ℕ → List ℕ → List (List ℕ) → ℕ → List (List ℤ)
segments_since g q packets u = four_segments (levels_since g q packets) (4 * (u - g))

-- The data segments of the group from packet i on under these orders, or none if the transmitter isn't served. The
-- coders have the states of the order in force before that order's group.
abbrev pub sent_by : ℕ → ℕ → List (List ℕ) → ℕ → List Order → List (List ℤ)
sent_by address delay packets i [] = []
sent_by address delay packets i (order ∷ older) =
    if is_ok (served address delay (order ∷ older)) then segments_since (order.place / 4) order.ops.states packets
    (i / 4) else []

-- the data segments that are sent of the group from packet i on
unfoldable pub sent_at : ℕ → ℕ → List (List ℕ) → ℕ → List (List ℤ)
sent_at address delay packets i = sent_by address delay packets i (orders (readings packets) i)

-- the data segments that are sent of the group before it
abbrev pub sent_before : ℕ → ℕ → List (List ℕ) → ℕ → List (List ℤ)
sent_before address delay packets i = if nat_le 4 i then sent_at address delay packets (i - 4) else []

-- whether the group before packet i was sent, by the answer to it
abbrev pub was_sent : ℕ → ℕ → List (Option Ops) → ℕ → Bool
was_sent address delay readings i = nat_le 4 i && is_sent (told_at address delay (i - 4) (orders readings (i - 4)))

-- The segments of a sent group. If it begins a field and the group before it was sent, a field sync stands before it.
-- The field sync ends with the last twelve symbols that were sent.
abbrev pub behind_field_sync : ℕ → List (List ℤ) → List (List ℤ) → List (List ℤ)
behind_field_sync i before [] = []
behind_field_sync i [] (s ∷ ss) = s ∷ ss
behind_field_sync i (b ∷ bs) (s ∷ ss) =
    (if i % 312 == 0 then field_sync (nat_le 312 (i % 624))
    (last_of (slice_index_or (b ∷ bs) (length bs) [])) ∷ [] else []) ++ s ∷ ss

abbrev pub given_under : ℕ → ℕ → Option (List (List ℕ)) → List (List ℤ)
given_under address delay None = []
given_under address delay (Some packets) =
    if length packets % 4 == 0
    then behind_field_sync (length packets - 4) (sent_before address delay packets (length packets - 4))
    (sent_at address delay packets (length packets - 4))
    else []

-- the segments that the last of these packets gives
unfoldable pub last_segments : ℕ → ℕ → List (List ℕ) → List (List ℤ)
last_segments address delay packets = given_under address delay (under packets)

-- all segments that these packets give, in order
unfoldable pub emission : ℕ → ℕ → List (List ℕ) → List (List ℤ)
emission address delay packets =
    flat_map (λ n. last_segments address delay (take (n + 1) packets)) (range_with_len 0 (length packets))

-- `count` is the number of the segments, and `symbols` begins with their symbols
pub record Holds (segments : List (List ℤ)) (count : ℕ) (symbols : List ℤ) : Type 0 where
  pub counted : count ≡ length segments
  pub begins : take (832 * count) symbols ≡ symbols_of segments
