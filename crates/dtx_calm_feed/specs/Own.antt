-- The segments that are a feed's own: those of coders that are preset once, at its first order (the profile's own, over
-- the symbols of ATSC A/53 Part 2). Packets are counted from the anchor.
use Rattle.std.specs.Prelude.{◌≡◌, ℕ, ℤ, ◌-◌, ◌/◌, ◌%◌, ◌<◌, Bool, if◌then◌else◌, None, Some, List, [], ◌∷◌}
use Rattle.std.specs.Prelude.{◌⊎◌, ◌+◌, ◌≤◌, ◌++◌, drop, length, slice_index_or, slice_range}
use Rattle.dtx_packets.specs.Packets.{sync_of}
use Rattle.dtx_ops.specs.declared.fields.Ops.{Ops}
use Rattle.dtx_exciter.specs.Emission.{segments_since, behind_field_sync}
use Rattle.dtx_exciter.specs.Order.{Order, counting_order, orders}
use Rattle.dtx_exciter.specs.Packets.{readings, under}

-- The data segments of the group from i on, where the coders begin with the states of the first of these orders, and no
-- later order presets them. The latest order comes first in the list.
abbrev pub own_by : List (List ℕ) → ℕ → List Order → List (List ℤ)
own_by packets i [] = []
own_by packets i (order ∷ []) = segments_since (order.place / 4) order.ops.states packets (i / 4)
own_by packets i (order ∷ next ∷ older) = own_by packets i (next ∷ older)

-- the data segments of the group from i on: none before the first order
unfoldable pub own_data : List (List ℕ) → ℕ → List (List ℤ)
own_data packets i = own_by packets i (orders (readings packets) i)

-- The segments of that group. If it begins a field and the group before it is sent, a field sync stands before them.
-- The field sync ends with the last twelve symbols of the group before.
unfoldable pub own_segments : Bool → List (List ℕ) → ℕ → List (List ℤ)
own_segments goes_on packets i =
    behind_field_sync i (if goes_on then own_data packets (i - 4) else []) (own_data packets i)

-- the last four of some segments, which are a group's data segments
abbrev pub data_of : List (List ℤ) → List (List ℤ)
data_of segments = drop (length segments - 4) segments

-- the order counts, and no group before its own has a counting order
pub record IsFirstOrder (packets : List (List ℕ)) (order : Order) : Type 0 where
  pub counts : counting_order (readings packets) order.place ≡ Some order.ops
  pub first : (g : ℕ) → g < order.place → counting_order (readings packets) g ≡ None

-- Packet m is a mark in step with the anchor.
pub record IsMarkOf (packets : List (List ℕ)) (m : ℕ) : Type 0 where
  pub in_step : m % 624 ≡ 0
  pub is_mark : sync_of (slice_index_or packets m []) ≡ 0xB8

-- An exciter that was given this life is locked to the feed from the place of a mark on, and was given the feed from
-- there up to packet n. Before that it either had no anchor, or was locked to a mark in step with that place. In the
-- second case an order of the feed stands 52 or more packets behind that place, and before the last group that it was
-- given.
pub record IsLockedTo (feed life : List (List ℕ)) (n : ℕ) : Type 0 where
  pub before : List (List ℕ)
  pub mark : ℕ
  pub in_step : length before % 624 ≡ 0
  pub at_mark : mark % 624 ≡ 0
  pub inside : n ≤ length feed
  pub given : under life ≡ Some (before ++ slice_range feed mark n)
  pub ordered : (before ≡ []) ⊎ ((k : ℕ) × (ops : Ops) × (counting_order (readings feed) k ≡ Some ops)
      × (mark + 52 ≤ k) × (k + 8 ≤ n))
