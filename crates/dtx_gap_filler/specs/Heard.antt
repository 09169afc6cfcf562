-- A repeater that receives the segments of a feed's own symbols (ATSC A/53 Part 2) with slight damage: what this means
-- (the profile's own, in the manner of ATSC A/110). A packet is its list of 188 bytes, a segment the list of its 832
-- symbols.
use Rattle.std.specs.Prelude.{ℕ, ℤ, pos, ◌+◌, ◌*◌, ◌/◌, ◌%◌, ◌<◌, ◌≤◌, ◌==◌, ◌+ℤ◌, ◌≤ℤ◌, List, [], length}
use Rattle.std.specs.Prelude.{slice_index_or}
use Rattle.dtx_plan.specs.declared.plan.Plan.{Plan}
use Rattle.dtx_plan.specs.declared.transmitter.Transmitter.{Transmitter}
use Rattle.dtx_adapter.specs.Feed.{feed}
use Rattle.dtx_chain.specs.Damage.{AreReceived, IsSlight, to_sync, from_sync, packet_behind, numbers_in}
use Rattle.dtx_network.specs.Plans.{IsPlan, IsStream, IsListed}
use Rattle.dtx_repeat.specs.Marks.{wrong_signs}

-- the first field sync among segments that were received of a feed, from segment first on
abbrev pub first_sync : ℕ → List (List ℤ) → List ℤ
first_sync first got = slice_index_or got (to_sync first) []

-- A repeater hears a feed. Successive segments `sent` of the feed's own symbols, from segment `first` on, are received
-- as the segments `got`. The plan lists its address, as that of transmitter t, and its delay is in time.
pub record Hears (plan : Plan) (stream : List (List ℕ)) (t : Transmitter) (delay first : ℕ) (sent got : List (List ℤ)) :
    Type 0 where
  pub is_plan : IsPlan plan
  pub is_stream : IsStream stream
  pub listed : IsListed plan t
  -- The delay, which needn't be that of the plan, is at most the plan's maximum delay plus the transmitter's offset.
  pub in_time : pos delay ≤ℤ (pos plan.max_delay +ℤ t.offset)
  pub received : AreReceived (feed plan stream) first sent got
  -- A field sync is among them, and the damage is slight.
  pub holds_sync : to_sync first < length sent
  pub slight : IsSlight (feed plan stream) first sent got
  -- The middle one of the short sequences of the first field sync has at most 31 wrong signs, for a first or a second
  -- field. A second one begins 312 packets behind a mark.
  pub few_wrong_signs : wrong_signs (packet_behind first % 624 == 312) (first_sync first got) ≤ 31

-- the first mark of a feed at packet m or behind it: the packet that begins a frame
abbrev pub mark_from : ℕ → ℕ
mark_from m = 624 * ((m + 623) / 624)

-- the mark at or behind the packet that follows the first field sync
abbrev pub heard_mark : ℕ → ℕ
heard_mark first = mark_from (packet_behind first)

-- The packet up to which the feed is received whole. The packets from the one behind the first field sync on, and
-- before this one, have all their 207 bytes among those received. No later packet has.
unfoldable pub heard_to : ℕ → List (List ℤ) → ℕ
heard_to first got = packet_behind first + length (numbers_in (from_sync first got))
