-- The steps of a schedule (the profile's own).
use Rattle.std.specs.Prelude.{ℕ, Option, Some, None, List, [], ◌∷◌, map, slice_index_or, Result, Ok, Err, bit_xor}
use Rattle.std.specs.Prelude.{slice_index, slice_set}
use Rattle.std.specs.List.{range_with_len, flat_map}
use Rattle.dtx_make.specs.Made.{made_packet}
use Rattle.dtx_plan.specs.declared.transmitter.Transmitter.{Transmitter}
use Rattle.dtx_plan.specs.declared.event.Event.{Event}
use Rattle.dtx_plan.specs.declared.event.Event.TheVariants.{Send, Foreign, Flip, Lie, Restart}
unfoldable pub use Rattle.dtx_plan.specs.TransmitterTable.{transmitter_place}
use Rattle.dtx_plan.specs.Sound.{to_of}
use Rattle.dtx_packets.specs.Packets.{sync_of, counter_of}
use Rattle.dtx_ops.specs.declared.fields.Ops.{Ops}
use Rattle.dtx_ops.specs.declared.refusal.OpsNo.{OpsNo}
use Rattle.dtx_ops.specs.Reading.{reading}
use Rattle.dtx_ops.specs.Spelling.{spelling}

-- the packet with one byte changed by exclusive or
abbrev pub flipped_packet : List ℕ → ℕ → ℕ → List ℕ
flipped_packet packet at with = slice_set packet at (bit_xor (slice_index packet at) with)

-- An operations packet with these states. Its other fields are those that the packet reads as, and byte 0 and counter
-- are the packet's own. A packet that doesn't read stays.
abbrev pub lied_by : List ℕ → List ℕ → Result Ops OpsNo → List ℕ
lied_by packet states (Ok ops) = spelling (record ops { states = states }) (counter_of packet) (sync_of packet)
lied_by packet states (Err why) = packet

-- the packet with other states, where it reads as an operations packet
unfoldable pub lied_packet : List ℕ → List ℕ → List ℕ
lied_packet packet states = lied_by packet states (reading packet)

-- The transmitter at place `who` of the plan's list is given a packet, or restarted if there is no packet.
pub record Step : Type 0 where
  pub who : ℕ
  pub packet : Option (List ℕ)

abbrev pub packet_step : ℕ → List ℕ → Step
packet_step who packet = record { who = who; packet = Some packet }

abbrev pub restart_step : ℕ → Step
restart_step who = record { who = who; packet = None }

-- packet k of the feed
abbrev pub feed_packet : List (List ℕ) → ℕ → List ℕ
feed_packet feed k = slice_index_or feed k []

-- what an event gives, with this feed: packets, or a restart
unfoldable pub actions_of : List (List ℕ) → Event → List (Option (List ℕ))
actions_of feed (Send to from count) = map (λ k. Some (feed_packet feed k)) (range_with_len from count)
actions_of feed (Foreign to seed from count) = map (λ k. Some (made_packet seed k)) (range_with_len from count)
actions_of feed (Flip to from at with) = Some (flipped_packet (feed_packet feed from) at with) ∷ []
actions_of feed (Lie to from states) = Some (lied_packet (feed_packet feed from) states) ∷ []
actions_of feed (Restart to) = None ∷ []

-- the steps that do these with the transmitter at a place, or no step if there is no place
abbrev pub steps_at : Option ℕ → List (Option (List ℕ)) → List Step
steps_at None actions = []
steps_at (Some who) actions = map (λ packet. record { who = who; packet = packet }) actions

-- the steps of an event, for the transmitter of its address
unfoldable pub steps_of : List Transmitter → List (List ℕ) → Event → List Step
steps_of ts feed event = steps_at (transmitter_place (to_of event) ts) (actions_of feed event)

-- the steps of all events, in order
unfoldable pub schedule : List Transmitter → List (List ℕ) → List Event → List Step
schedule ts feed events = flat_map (steps_of ts feed) events
