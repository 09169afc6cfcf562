use Rattle.std.proofs.Common.{◌≡◌, ◌≤◌, ◌+◌, ◌-◌, ◌++◌, ℕ, List, length}
use Rattle.std.specs.Prelude.{Some}
use Rattle.std.specs.FinMap.{get}
use Rattle.dtx_outside.specs.Counts.{HasGone, Nothing}
use Rattle.dtx_outside.specs.Shelf.{Files}
use Rattle.dtx_packets.specs.Packets.{packets_from, whole_packets}
use Rattle.dtx_plan.specs.declared.transmitter.Transmitter.{Transmitter}
use Rattle.dtx_words.specs.Names.{feed_name}
use Rattle.dtx_net.specs.Steps.{Step}
use Rattle.dtx_schedule.specs.PlayedSoFar.{IsPlayedSoFar, packet_steps}
use Rattle.dtx_schedule.specs.Playout.{HasTransmitter}
use Rattle.dtx_schedule.proofs.event.send.Given as goal

abbrev pub invariant-loop-given : goal.invariant-loop-given
invariant-loop-given g l = record {
  in_range : l.given ≤ l.part.count;
  room : length l.packets ≡ 348;
  done : (ts : List Transmitter) (held : Files) (before : List Step) (feed : List ℕ) → get held feed_name ≡ Some feed
      → l.part.from + l.part.count ≤ whole_packets feed
      → IsPlayedSoFar ts before held l.fn.playout (g.S.Shelf.files l.fn.shelf)
      → IsPlayedSoFar ts (before ++ packet_steps l.who (packets_from feed l.part.from l.given)) held l.playout
      (g.S.Shelf.files l.shelf);
  there : HasTransmitter l.who l.playout;
  count : l.playout.steps ≡ l.fn.playout.steps + l.given;
  gone : HasGone (g.S.Shelf.counts l.fn.shelf) (g.S.Shelf.counts l.shelf) Nothing;
}

abbrev pub decreases-loop-given : goal.decreases-loop-given
decreases-loop-given g l = l.part.count - l.given
