-- The feed that an adapter makes of a stream under a plan (the profile's own, in the manner of ATSC A/110). Packets are
-- counted from 0, and 624 make a frame.
use Rattle.std.specs.Prelude.{ℕ, ◌+◌, ◌*◌, ◌/◌, ◌%◌, ◌==◌, nat_le, Bool, true, if◌then◌else◌, List, [], ◌∷◌, ◌++◌}
use Rattle.std.specs.Prelude.{length, map, take, slice_index_or, slice_range, ◌≡◌, ◌<◌, ◌≤◌}
use Rattle.std.specs.List.{filter, list_any, range_with_len}
use Rattle.std.proofs.Common.{zero, suc}
use Rattle.dtx_packets.specs.Packets.{pid_of}
use Rattle.dtx_cadence.specs.Mark.{sync_at, marked}
use Rattle.dtx_clock.specs.Clock.{stamp_of}
use Rattle.dtx_coder.specs.Stream.{states}
use Rattle.dtx_ops.specs.Spelling.{spelling}
use Rattle.dtx_ops.specs.declared.fields.Entry.{Entry}
use Rattle.dtx_ops.specs.declared.fields.Ops.{Ops}
use Rattle.dtx_ops.specs.declared.paging.Paging.{Paging}
use Rattle.dtx_ops.specs.declared.paging.Paging.TheVariants.{One, Of}
use Rattle.dtx_plan.specs.declared.plan.Plan.{Plan}
use Rattle.dtx_plan.specs.declared.transmitter.Transmitter.{Transmitter}

-- a placeholder of the stream becomes an operations packet of the feed: its packet identifier is 0x1FFA
unfoldable pub is_placeholder : List ℕ → Bool
is_placeholder packet = pid_of packet == 0x1FFA

-- how many of some packets are placeholders
unfoldable pub placeholders : List (List ℕ) → ℕ
placeholders packets = length (filter is_placeholder packets)

-- a transmitter of the plan as an entry of an operations packet
abbrev pub entry_of : Transmitter → Entry
entry_of t = record { address = t.address; offset = t.offset }

-- how many pages `count` transmitters take, 34 on each
unfoldable pub pages_for : ℕ → ℕ
pages_for count = (count + 33) / 34

-- The page that a group's operations packets carry, if n groups before it hold operations packets. Up to 35
-- transmitters stand on the only page, and more of them on pages that take turns.
unfoldable pub paging_of : {X : Type 0} → List X → ℕ → Paging
paging_of ts n = if nat_le (length ts) 35 then One else Of (n % pages_for (length ts)) (pages_for (length ts))

-- the transmitters on a page, in their order: page p has those from 34 p on, 34 at most
abbrev pub listed : {X : Type 0} → List X → Paging → List X
listed ts One = ts
listed ts (Of page pages) = slice_range ts (34 * page) (34 * page + 34)

-- transmitter i stands on the page
abbrev pub is_listed : Paging → ℕ → Bool
is_listed One i = true
is_listed (Of page pages) i = page == i / 34

-- group u of the stream, its packets 4 u to 4 u + 3, holds a placeholder
unfoldable pub is_filled : List (List ℕ) → ℕ → Bool
is_filled stream u = list_any is_placeholder (slice_range stream (4 * u) (4 * u + 4))

-- how many groups before group u hold one
unfoldable pub filled_groups : List (List ℕ) → ℕ → ℕ
filled_groups stream u = length (filter (is_filled stream) (range_with_len 0 u))

-- the page that the operations packets of group u carry
abbrev pub paging_at : Plan → List (List ℕ) → ℕ → Paging
paging_at plan stream u = paging_of plan.transmitters (filled_groups stream u)

-- The fields of the operations packet that is packet k of a stream's feed, where `before` is the feed's packets before
-- it. The states are those of the coders after all whole groups before its own. The stamp is that of its frame, and the
-- maximum delay is the plan's. Then come the number of the frame, the packet's place in it, the page of its group, and
-- the plan's transmitters on that page.
unfoldable pub ops_at : Plan → List (List ℕ) → List (List ℕ) → ℕ → Ops
ops_at plan stream before k = record {
  states = states (take (4 * (k / 4)) before);
  stamp = stamp_of plan.start (k / 624);
  max_delay = plan.max_delay;
  frame = k / 624;
  index = k % 624;
  paging = paging_at plan stream (k / 4);
  offsets = record { items = map entry_of (listed plan.transmitters (paging_at plan stream (k / 4))) };
}

-- the counter of operations packet k: how many stand before it, modulo 16
unfoldable pub counter_at : List (List ℕ) → ℕ → ℕ
counter_at stream k = placeholders (take k stream) % 16

-- What a packet of the stream becomes as packet k of the feed. A placeholder becomes an operations packet with these
-- fields and this counter. Every other packet keeps all but byte 0.
unfoldable pub as_feed_packet : Ops → ℕ → ℕ → List ℕ → List ℕ
as_feed_packet ops counter k packet = if is_placeholder packet then spelling ops counter
    (sync_at k) else marked k packet

-- packet k of the feed, where `before` is the feed's packets before it
unfoldable pub fed_packet : Plan → List (List ℕ) → List (List ℕ) → ℕ → List ℕ
fed_packet plan stream before k = as_feed_packet (ops_at plan stream before k) (counter_at stream k) k
    (slice_index_or stream k [])

-- the first n packets of the feed
unfoldable pub feed_to : Plan → List (List ℕ) → ℕ → List (List ℕ)
feed_to plan stream zero = []
feed_to plan stream (suc n) = feed_to plan stream n ++ fed_packet plan stream (feed_to plan stream n) n ∷ []

-- the feed of a stream
unfoldable pub feed : Plan → List (List ℕ) → List (List ℕ)
feed plan stream = feed_to plan stream (length stream)

-- A group from group `from` on and before group `to` holds a placeholder, and its page lists the transmitter at `place`
-- of the plan.
pub record IsListedIn {X : Type 0} (ts : List X) (stream : List (List ℕ)) (from to place : ℕ) : Type 0 where
  pub group : ℕ
  pub least : from ≤ group
  pub within : group < to
  pub filled : is_filled stream group ≡ true
  pub listed : is_listed (paging_of ts (filled_groups stream group)) place ≡ true
