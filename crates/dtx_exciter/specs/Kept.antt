-- What an exciter keeps of the packets that it was given since it was new or reset.
use Rattle.std.specs.Prelude.{ℕ, ℤ, ◌≡◌, ◌*◌, ◌/◌, ◌%◌, ◌-◌, nat_le, Bool, false, ⊤, Option, Some, None, is_ok, List}
use Rattle.std.specs.Prelude.{[], ◌∷◌, ◌++◌, length, take, drop}
use Rattle.dtx_cadence.specs.Anchor as cadence
use Rattle.dtx_coder.specs.Groups.{Coding}
use Rattle.dtx_coder.specs.Along.{RunsAlong}
use Rattle.dtx_exciter.specs.declared.exciter.Exciter.{Exciter}
use Rattle.dtx_exciter.specs.Order.{Order, orders}
use Rattle.dtx_exciter.specs.declared.answers.Told.{Told}
use Rattle.dtx_exciter.specs.Told.{served, told_under}
use Rattle.dtx_exciter.specs.Packets.{syncs, readings, under, last_answer}
use Rattle.dtx_exciter.specs.Emission.{Holds, last_segments, given_under}
use Rattle.dtx_exciter.specs.Pages.{HoldsPages}
use Rattle.dtx_exciter.specs.Step.{bytes_of}

-- how many of the packets stand in whole groups
abbrev pub whole : List (List ℕ) → ℕ
whole packets = 4 * (length packets / 4)

-- the orders up to the last whole group
unfoldable pub last_orders : List (List ℕ) → List Order
last_orders packets = orders (readings packets) (whole packets - 4)

-- whether the transmitter is served under these orders
abbrev pub is_served : ℕ → ℕ → List Order → Bool
is_served address delay [] = false
is_served address delay (order ∷ older) = is_ok (served address delay (order ∷ older))

-- The coder was given these packets. It had the states of the order in force before that order's group. Without an
-- order it had any states at the anchor.
abbrev pub RunsUnder : List (List ℕ) → List Order → Coding → Type 0
RunsUnder packets [] coder = (q : List ℕ) × RunsAlong packets 0 q coder
RunsUnder packets (order ∷ older) coder = RunsAlong packets (order.place / 4) order.ops.states coder

-- what is kept of the packets from the anchor on
pub record KeepsUnder (address delay : ℕ) (e : Exciter) (packets : List (List ℕ)) : Type 0 where
  -- whether there are 52 packets or more
  pub flushed : e.flushed ≡ nat_le 52 (length packets)
  -- the packets of the group that isn't whole yet
  pub partial : take (length packets % 4) (bytes_of e.packets) ≡ drop (whole packets) packets
  -- whether the last whole group was sent
  pub sent : e.sent ≡ is_served address delay (last_orders packets)
  -- what the orders up to that group tell of the pages
  pub pages : HoldsPages address (last_orders packets) e.pages
  pub coder : RunsUnder (take (whole packets) packets) (last_orders packets) e.coder

abbrev pub Keeps : ℕ → ℕ → Exciter → Option (List (List ℕ)) → Type 0
Keeps address delay e None = ⊤
Keeps address delay e (Some packets) = KeepsUnder address delay e packets

-- the exciter of the transmitter with this address and delay that was given these packets, or one that answers as it
-- does
pub record StandsFor (a d : ℕ) (e : Exciter) (packets : List (List ℕ)) : Type 0 where
  pub address : e.address ≡ a
  pub delay : e.delay ≡ d
  pub anchor : cadence.StandsFor e.anchor (syncs packets)
  pub kept : Keeps a d e (under packets)

-- The exciter after the last of these packets, its answer to that packet, and the segments that the packet gives.
pub record IsTaken (a d : ℕ) (packets : List (List ℕ)) (e : Exciter) (answered : Told) (count : ℕ)
    (symbols : List ℤ) : Type 0 where
  pub answer : answered ≡ last_answer a d packets
  pub air : Holds (last_segments a d packets) count symbols
  pub stands : StandsFor a d e packets

-- the same of the packets from the anchor on
pub record IsJoined (address delay : ℕ) (packets : List (List ℕ)) (e : Exciter) (answered : Told) (count : ℕ)
    (symbols : List ℤ) : Type 0 where
  pub answer : answered ≡ told_under address delay (Some (readings packets))
  pub air : Holds (given_under address delay (Some packets)) count symbols
  pub keeps : KeepsUnder address delay e packets

-- the same of packet p at this place of its frame, whatever packets from the anchor on the exciter was given before
abbrev pub Joins : ℕ → List ℕ → Exciter → Exciter → Told → ℕ → List ℤ → Type 0
Joins place p old made answered count symbols =
    (packets : List (List ℕ)) → KeepsUnder old.address old.delay old packets → place ≡ length packets % 624
    → IsJoined old.address old.delay (packets ++ p ∷ []) made answered count symbols
