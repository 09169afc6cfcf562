-- What an event makes of the packet of the feed that it reads.
use Rattle.std.specs.Prelude.{ℕ, List}
use Rattle.dtx_plan.specs.declared.event.Event.{Event}
use Rattle.dtx_plan.specs.declared.event.Event.TheVariants.{Flip, Lie}
use Rattle.dtx_net.specs.Steps.{flipped_packet, lied_packet}

-- `Flip` makes a byte wrong, `Lie` makes the states wrong, and any other event leaves the packet as it is
abbrev pub changed_packet : Event → List ℕ → List ℕ
changed_packet (Flip to from at with) packet = flipped_packet packet at with
changed_packet (Lie to from states) packet = lied_packet packet states
changed_packet _ packet = packet
