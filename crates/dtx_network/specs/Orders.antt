-- The orders of a feed, group by group, the transmitters that a group lists, and the presets that they log (the
-- profile's own, in the manner of ATSC A/110). Packets are counted from 0, and a group is four of them.
use Rattle.std.specs.Prelude.{ℕ, ◌≡◌, ◌/◌, ◌%◌, ◌==◌, ◌&&◌, nat_le, Bool, false, Option, Some, None, option_map, find}
use Rattle.std.specs.Prelude.{if◌then◌else◌, List, [], map, take, slice_index_or, ℤ, ◌+◌, ◌-◌}
use Rattle.std.specs.List.{range_with_len, list_any, filter}
use Rattle.dtx_packets.specs.Packets.{pid_of}
use Rattle.dtx_ops.specs.declared.fields.Ops.{Ops}
use Rattle.dtx_ops.specs.Paging.{pages_of}
use Rattle.dtx_plan.specs.declared.plan.Plan.{Plan}
use Rattle.dtx_clock.specs.Clock.{stamp_of, moment_of}
use Rattle.dtx_coder.specs.Stream.{states as states_of}
use Rattle.dtx_adapter.specs.Feed.{entry_of, paging_of, paging_at, listed, ops_at, feed}
use Rattle.dtx_exciter.specs.Pages.{lists}
use Rattle.dtx_exciter.specs.Packets.{reads}
use Rattle.dtx_clock.specs.declared.answers.Moment.{Moment}
use Rattle.dtx_exciter.specs.Lockstep.{segment_place}
use Rattle.dtx_exciter.specs.Log.{Line, preset}

-- ---- operations packets

-- packet k is an operations packet: its packet identifier is 0x1FFA
unfoldable pub is_operations : List (List ℕ) → ℕ → Bool
is_operations packets k = pid_of (slice_index_or packets k []) == 0x1FFA

-- one of the four packets from packet g on is an operations packet
unfoldable pub has_order : List (List ℕ) → ℕ → Bool
has_order packets g = list_any (is_operations packets) (range_with_len g 4)

-- the number of the first of them
unfoldable pub first_operations : List (List ℕ) → ℕ → Option ℕ
first_operations packets g = find (is_operations packets) (range_with_len g 4)

-- ---- listings

-- what a packet reads as lists the address
abbrev pub is_listing : ℕ → Option Ops → Bool
is_listing address None = false
is_listing address (Some ops) = lists address ops

-- one of the four packets from packet g on is an operations packet that lists the address
unfoldable pub has_listing : ℕ → List (List ℕ) → ℕ → Bool
has_listing address packets g =
    list_any (λ k. is_listing address (reads (slice_index_or packets k []))) (range_with_len g 4)

-- how many pages a plan's transmitters take: each order has one page, so this many orders list all transmitters
abbrev pub pages_in : Plan → ℕ
pages_in plan = pages_of (paging_of plan.transmitters 0)

-- ---- what a group of a feed orders

-- The order in the group from packet g of a feed on: the fields of the group's first operations packet. It counts only
-- 52 or more packets behind the feed's start.
unfoldable pub order_of : Plan → List (List ℕ) → ℕ → Option Ops
order_of plan stream g =
    if nat_le 52 g && (g % 4 == 0) then option_map (λ k. ops_at plan stream (take k (feed plan stream)) k)
    (first_operations stream g) else None

-- These fields are the order in the group from packet g of a feed on. They are the states that the feed's coders have
-- before the group, the stamp of its frame, and the plan's maximum delay. They are also its frame, the page whose turn
-- it is, and the plan's transmitters on that page.
pub record IsOrder (plan : Plan) (stream : List (List ℕ)) (g : ℕ) (ops : Ops) : Type 0 where
  pub states : ops.states ≡ states_of (take g (feed plan stream))
  pub stamp : ops.stamp ≡ stamp_of plan.start (g / 624)
  pub max_delay : ops.max_delay ≡ plan.max_delay
  pub frame : ops.frame ≡ g / 624
  pub paging : ops.paging ≡ paging_at plan stream (g / 4)
  pub entries : ops.offsets.items ≡ map entry_of (listed plan.transmitters (paging_at plan stream (g / 4)))

-- the groups of a feed that hold an operations packet, begin at packet k or later, and end at packet end or earlier:
-- each by its first packet
unfoldable pub orders : List (List ℕ) → ℕ → ℕ → List ℕ
orders feed k end = filter (λ g. (g % 4 == 0) && has_order feed g) (range_with_len k (end - 3 - k))

-- the moment of the data segment of packet g at a transmitter with this offset, from the stamp of the packet's frame
-- and the plan's maximum delay
abbrev pub moment_at : Plan → ℤ → ℕ → Moment
moment_at plan offset g = moment_of (stamp_of plan.start (g / 624)) plan.max_delay offset (g % 624)

-- The line of the order of the group from packet g on, where the data segment of packet k is segment s. It has the
-- group's first data segment, its frame, its first packet's place in the frame, and the moment.
abbrev pub preset_at : Plan → ℤ → ℕ → ℕ → ℕ → Line
preset_at plan offset s k g =
    preset (s + (segment_place g - segment_place k)) (g / 624) (g % 624) (moment_at plan offset g).tick
    (moment_at plan offset g).grain

-- the lines of all orders from packet k to packet end
unfoldable pub presets : Plan → ℤ → ℕ → List (List ℕ) → ℕ → ℕ → List Line
presets plan offset s feed k end = map (preset_at plan offset s k) (orders feed k end)
