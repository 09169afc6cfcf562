-- A network that is shown to meet what the headline asks of transmitters, symbols and damage, and the file that it
-- gives back (the profile's own). These definitions don't ask that the command `net` has played the network.
use Rattle.std.specs.Prelude.{ℕ, ◌≡◌, ◌≢◌, ◌+◌, ◌≤◌, ◌-ℤ◌, Some, IsSomeAnd, List, [], ◌∷◌, length, map, drop}
use Rattle.std.specs.Prelude.{slice_get, true}
use Rattle.std.specs.Prelude.{slice_index_or}
use Rattle.std.specs.List.{range_with_len}
use Rattle.std.specs.Result.{IsOkAnd}
use Rattle.dtx_adapter.specs.Feed.{feed}
use Rattle.dtx_chain.specs.Damage.{numbers_in, as_received}
use Rattle.dtx_recipes.specs.SymbolFile.{file_segments}
use Rattle.dtx_make.specs.Made.{made_packet}
use Rattle.dtx_net.specs.Lives.{lines_of}
use Rattle.dtx_network.specs.GivesBack.{BeginsField, IsReceivedAlone, IsAllBack, next_field, to_field}
use Rattle.dtx_network.specs.Network.{steps_under, Joined, Follows, AreApart}
use Rattle.dtx_network.specs.Orders.{has_order, preset_at}
use Rattle.dtx_network.specs.Plans.{IsInTime}
use Rattle.dtx_packets.specs.Packets.{packets_of}
use Rattle.dtx_plan.specs.Plan.{plan_of}
use Rattle.dtx_plan.specs.declared.damage.Damage.{Damage}
use Rattle.dtx_plan.specs.declared.event.Event.TheVariants.{Send}
use Rattle.dtx_plan.specs.declared.plan.NetPlan.{NetPlan}
use Rattle.dtx_plan.specs.declared.plan.Plan.{Plan}
use Rattle.dtx_plan.specs.declared.plan.ReceivePlan.{ReceivePlan}
use Rattle.dtx_plan.specs.declared.transmitter.Transmitter.{Transmitter}
use Rattle.dtx_top.specs.Networks.{damaged_file}

-- The receiver takes the symbols of the transmitter of this address, with this number of entries of damage laid over
-- them. What it takes is as long as the stretch from packet k to the end of the stream, and is that with slight damage
-- or none. The stretch holds a field sync. The receiver finds one run, from the first field sync on. The run gives its
-- packets whose bytes are all there, in order, with 0x47 as their sync bytes. None is flagged, and there is no other.
pub record IsGivenBack (plan : Plan) (network : NetPlan) (stream : List (List ℕ)) (address k entries : ℕ)
    (receiver : ReceivePlan) : Type 0 where
  pub from : receiver.from ≡ address
  pub many : length receiver.damage ≡ entries
  pub begins : BeginsField k (length stream) (next_field k)
  pub slight : IsReceivedAlone (feed plan stream) k (length stream)
      (file_segments (damaged_file plan network stream receiver))
  pub all_back : IsAllBack (feed plan stream) k (next_field k)
      (file_segments (damaged_file plan network stream receiver))

-- Two transmitters of a network, of different addresses, join the feed of a stream, and `Follows` holds of both. Their
-- moments of the group from packet g on are apart. The first one is received, and given back. No premise is left.
pub record WorkedNetwork (plan : Plan) (network : NetPlan) (stream : List (List ℕ)) (g entries : ℕ) : Type 0 where
  pub one : Joined plan stream network.events
  pub other : Joined plan stream network.events
  pub two : one.t.address ≢ other.t.address
  -- What the headline says of each transmitter that joins.
  pub follows : Follows plan stream network.events one
  pub other_follows : Follows plan stream network.events other
  -- Both log a preset of the group from packet g on, and the moments of the two differ by the offsets and some whole
  -- seconds.
  pub apart : AreApart (one.t.offset -ℤ other.t.offset)
      (lines_of one.t one.who (steps_under plan stream network.events))
      (lines_of other.t other.who (steps_under plan stream network.events))
      (preset_at plan one.t.offset (length follows.emits.before) one.k g)
      (preset_at plan other.t.offset (length other_follows.emits.before) other.k g)
  -- The first one is received, with this number of entries of damage, and given back.
  pub given_back : IsSomeAnd network.receive (IsGivenBack plan network stream one.t.address one.k entries)

-- The text is a plan with a table `net`, and the network of that table is worked over this stream. The name that the
-- table gives the stream doesn't matter.
abbrev pub IsWorked : List ℕ → List (List ℕ) → ℕ → ℕ → Type 0
IsWorked text stream g entries =
    IsOkAnd (plan_of text) (λ plan. IsSomeAnd plan.net (λ network. WorkedNetwork plan network stream g entries))

-- The whole packets of a file are packets of the feed, in order, with 0x47 as their sync bytes. They begin with the
-- first field after packet k. They are those whose bytes are all there after the segments that the stretch has before
-- its first field sync.
abbrev pub HasAllBack : Plan → NetPlan → List (List ℕ) → ReceivePlan → ℕ → List ℕ → Type 0
HasAllBack plan network stream receiver k file =
    packets_of file ≡ map (λ j. as_received (slice_index_or (feed plan stream) (next_field k + j) []))
    (numbers_in (drop (to_field k (next_field k)) (file_segments (damaged_file plan network stream receiver))))

-- No entry of damage, or one of at most 31 symbols within the first 212 segments. Where a stretch begins at packet 100
-- or an earlier one, its first field sync comes after these segments.
abbrev pub IsFew : List Damage → Type 0
IsFew [] = Unit {0}
IsFew (entry ∷ []) = (entry.count ≤ 31) × (entry.at + entry.count ≤ 176384)
IsFew damage = ⊥

-- The transmitter of this address is received, with little damage: `entries` entries, at most one.
pub record IsLittle (address entries : ℕ) (receiver : ReceivePlan) : Type 0 where
  pub from : receiver.from ≡ address
  pub few : IsFew receiver.damage
  pub many : length receiver.damage ≡ entries

-- What is asked of a plan, its network and a stream. The plan has at most 35 transmitters, so that each operations
-- packet lists all of them. The first two have different addresses and are in time. The schedule is two events: the
-- first transmitter is given all packets of the feed, and then the second one is. The stream's group from packet 100 on
-- holds a placeholder. The stream has 372 packets or more, 60 more than its first field. The first transmitter is
-- received, with this number of entries of little damage.
pub record IsSimple (plan : Plan) (network : NetPlan) (stream : List (List ℕ)) (a b : Transmitter)
    (entries : ℕ) : Type 0 where
  pub few : length plan.transmitters ≤ 35
  pub first : slice_get plan.transmitters 0 ≡ Some a
  pub second : slice_get plan.transmitters 1 ≡ Some b
  pub in_time : IsInTime plan a
  pub other_in_time : IsInTime plan b
  pub differ : a.address ≢ b.address
  pub events : network.events ≡ Send a.address 0 (length stream) ∷ Send b.address 0 (length stream) ∷ []
  pub order : has_order stream 100 ≡ true
  pub long : 372 ≤ length stream
  pub received : IsSomeAnd network.receive (IsLittle a.address entries)

-- the first `count` packets of the made stream of a seed
unfoldable pub made_packets : ℕ → ℕ → List (List ℕ)
made_packets seed count = map (made_packet seed) (range_with_len 0 count)
