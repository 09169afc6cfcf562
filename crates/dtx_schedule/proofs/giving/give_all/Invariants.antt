use Rattle.std.proofs.Common.{◌≡◌, ◌+◌, ◌++◌, List, map, take}
use Rattle.dtx_outside.specs.Counts.{HasGone, Nothing}
use Rattle.dtx_outside.specs.Shelf.{Files}
use Rattle.dtx_net.specs.Steps.{Step}
use Rattle.dtx_plan.specs.declared.transmitter.Transmitter.{Transmitter}
use Rattle.dtx_schedule.specs.PlayedSoFar.{IsPlayedSoFar, packet_steps}
use Rattle.dtx_schedule.specs.Playout.{HasTransmitter}
use Rattle.dtx_schedule.proofs.giving.give_all.Given as goal

abbrev pub invariant-loop-i : goal.invariant-loop-i
invariant-loop-i g l = record {
  done : (ts : List Transmitter) (held : Files) (before : List Step)
      → IsPlayedSoFar ts before held l.fn.playout (g.S.Shelf.files l.fn.shelf)
      → IsPlayedSoFar ts (before ++ packet_steps l.who (map (λ p. p.0) (take l.i l.packets))) held l.playout
      (g.S.Shelf.files l.shelf);
  there : HasTransmitter l.who l.playout;
  count : l.playout.steps ≡ l.fn.playout.steps + l.i;
  gone : HasGone (g.S.Shelf.counts l.fn.shelf) (g.S.Shelf.counts l.shelf) Nothing;
}
