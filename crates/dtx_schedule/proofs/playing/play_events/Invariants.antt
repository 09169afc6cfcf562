use Rattle.std.proofs.Common.{◌≡◌, ◌≤◌, ◌*◌, ℕ, List, [], length, take}
use Rattle.std.specs.Prelude.{Some, None}
use Rattle.std.specs.FinMap.{get}
use Rattle.dtx_outside.specs.Counts.{HasGone, Nothing}
use Rattle.dtx_outside.specs.Shelf.{Files}
use Rattle.dtx_packets.specs.Packets.{packets_of, whole_packets}
use Rattle.dtx_plan.specs.declared.transmitter.Transmitter.{Transmitter}
use Rattle.dtx_words.specs.Names.{feed_name}
use Rattle.dtx_net.specs.Steps.{schedule}
use Rattle.dtx_schedule.specs.Inside.{first_past_feed}
use Rattle.dtx_schedule.specs.PlayedSoFar.{IsPlayedSoFar}
use Rattle.dtx_schedule.specs.Playout.{IsSomePlayout}
use Rattle.dtx_schedule.proofs.playing.play_events.Given as goal

abbrev pub invariant-loop-i : goal.invariant-loop-i
invariant-loop-i g l = record {
  room : length l.packets ≡ 348;
  done : (ts : List Transmitter) (held : Files) (feed : List ℕ) → get held feed_name ≡ Some feed
      → first_past_feed l.events (whole_packets feed) ≡ None
      → IsPlayedSoFar ts [] held l.fn.playout (g.S.Shelf.files l.fn.shelf)
      → IsPlayedSoFar ts (schedule ts (packets_of feed) (take l.i l.events)) held l.playout (g.S.Shelf.files l.shelf);
  some : IsSomePlayout l.playout;
  count : l.playout.steps ≤ 624000000 * l.i;
  gone : HasGone (g.S.Shelf.counts l.fn.shelf) (g.S.Shelf.counts l.shelf) Nothing;
}
