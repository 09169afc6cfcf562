-- The steps of each kind of event, as they are done.
use Rattle.std.proofs.Common.{◌≡◌, ℕ, ◌+◌, ◌<◌, ◌≤◌, false, List, [], ◌∷◌, ◌++◌, map, refl, arith, append_assoc}
use Rattle.std.specs.Prelude.{Option, Some, None, Result, nat_le}
use Rattle.std.specs.List.{range_with_len}
use Rattle.std.proofs.lemmas.Bool.{ltb-false, leb-false}
use Rattle.std.proofs.lemmas.List.{append-nil, map-append}
use Rattle.std.proofs.lemmas.List.FromFn.{get_or-map-range_with_len}
use Rattle.std.proofs.lemmas.Simd.{map-map}
use Rattle.dtx_lists.proofs.Range.{map-range_same}
use Rattle.dtx_make.specs.Made.{made_packet}
use Rattle.dtx_packets.specs.Packets.{packet_at, packets_from, packets_of, whole_packets}
use Rattle.dtx_packets.proofs.PacketLemmas.{packets_from-append}
use Rattle.dtx_outside.specs.Shelf.{Files}
use Rattle.dtx_plan.specs.declared.transmitter.Transmitter.{Transmitter}
use Rattle.dtx_plan.specs.declared.event.Event.{Event}
use Rattle.dtx_plan.specs.declared.event.Event.TheVariants.{Send, Foreign, Flip, Lie, Restart}
use Rattle.dtx_plan.specs.Sound.{to_of}
use Rattle.dtx_meaning.specs.declared.status.Status.{Status}
use Rattle.dtx_net.specs.Steps.{flipped_packet, lied_packet, Step, packet_step, restart_step, transmitter_place}
use Rattle.dtx_net.specs.Steps.{feed_packet, steps_of, actions_of}
use Rattle.dtx_schedule.specs.declared.playout.Playout.{Playout}
use Rattle.dtx_schedule.specs.Inside.{reads_past}
use Rattle.dtx_schedule.specs.PlayedSoFar.{IsDoneOf, packet_steps}

-- a packet that the feed has
pub packet_of_feed : (feed : List ℕ) (k : ℕ) → k < whole_packets feed
    → packet_at feed k ≡ feed_packet (packets_of feed) k
packet_of_feed feed k within = grind (arith, get_or-map-range_with_len)

pub nowhere : (ts : List Transmitter) (feed : List (List ℕ)) (e : Event) (before : List Step)
    → transmitter_place (to_of e) ts ≡ None → before ++ steps_of ts feed e ≡ before
unfolding steps_of
nowhere ts feed e before none = rw none (append-nil before)

pub sent : (ts : List Transmitter) (who to from count : ℕ) (feed : List ℕ) → transmitter_place to ts ≡ Some who
    → from + count ≤ whole_packets feed
    → packet_steps who (packets_from feed from count) ≡ steps_of ts (packets_of feed) (Send to from count)
unfolding steps_of actions_of
sent ts who to from count feed place within = grind (arith, map-range_same, packet_of_feed, map-map)

pub made : (ts : List Transmitter) (who to seed from count : ℕ) (feed : List (List ℕ))
    → transmitter_place to ts ≡ Some who → packet_steps who (map (made_packet seed) (range_with_len from count))
    ≡ steps_of ts feed (Foreign to seed from count)
unfolding steps_of actions_of
made ts who to seed from count feed place = grind (arith, map-map)

pub flipped : (ts : List Transmitter) (who to from at with : ℕ) (feed packet : List ℕ)
    → transmitter_place to ts ≡ Some who → from < whole_packets feed → packet ≡ packet_at feed from
    → packet_step who (flipped_packet packet at with) ∷ [] ≡ steps_of ts (packets_of feed) (Flip to from at with)
unfolding steps_of actions_of
flipped ts who to from at with feed packet place within is = grind (arith, packet_of_feed)

pub lied : (ts : List Transmitter) (who to from : ℕ) (states feed packet : List ℕ) → transmitter_place to ts ≡ Some who
    → from < whole_packets feed → packet ≡ packet_at feed from
    → packet_step who (lied_packet packet states) ∷ [] ≡ steps_of ts (packets_of feed) (Lie to from states)
unfolding steps_of actions_of
lied ts who to from states feed packet place within is = grind (arith, packet_of_feed)

pub restarted : (ts : List Transmitter) (who to : ℕ) (feed : List (List ℕ)) → transmitter_place to ts ≡ Some who
    → restart_step who ∷ [] ≡ steps_of ts feed (Restart to)
unfolding steps_of actions_of
restarted ts who to feed place = rw place refl

-- the packets of two pieces, one behind the other
pub piece_on : (before : List Step) (who : ℕ) (feed : List ℕ) (from m n : ℕ)
    → (before ++ packet_steps who (packets_from feed from m)) ++ packet_steps who (packets_from feed (from + m) n)
    ≡ before ++ packet_steps who (packets_from feed from (m + n))
piece_on before who feed from m n = simp (append_assoc, packets_from-append, map-append)

-- ---- an event done

-- what was done with the transmitter at a place is what its event does
pub event_done : (ts : List Transmitter) (before own : List Step) (held : Files) (result : Result (Unit {0}) Status)
    (playout : Playout) (now : Option Files) (who : ℕ) (feed : List (List ℕ)) (e kind : Event)
    → e ≡ kind → transmitter_place (to_of e) ts ≡ Some who → (transmitter_place (to_of kind) ts ≡ Some who
    → own ≡ steps_of ts feed kind) → IsDoneOf ts (before ++ own) held result playout now
    → IsDoneOf ts (before ++ steps_of ts feed e) held result playout now
event_done ts before own held result playout now who feed e kind is place same done = grind arith

-- a part of the feed, or one packet of it, that is within the feed
pub part_within : (whole to from count : ℕ) (e : Event) → e ≡ Send to from count → reads_past whole e ≡ false
    → from + count ≤ whole
part_within whole to from count e is past = grind (arith, ltb-false)

pub one_within : (whole from : ℕ) (e kind : Event) → e ≡ kind → reads_past whole kind ≡ nat_le whole from
    → reads_past whole e ≡ false → from < whole
one_within whole from e kind is reads past = grind (arith, leb-false)
