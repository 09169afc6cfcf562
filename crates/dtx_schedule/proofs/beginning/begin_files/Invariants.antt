use Rattle.std.proofs.Common.{◌≡◌, List}
use Rattle.dtx_meaning.specs.Meaning.{with_outputs}
use Rattle.dtx_outside.specs.Counts.{HasGone, Nothing}
use Rattle.dtx_plan.specs.declared.transmitter.Transmitter.{Transmitter}
use Rattle.dtx_schedule.specs.Playout.{AreNames}
use Rattle.dtx_schedule.proofs.Begun.{first_empty}
use Rattle.dtx_schedule.proofs.beginning.begin_files.Given as goal

abbrev pub invariant-loop-its : goal.invariant-loop-its
invariant-loop-its g l = record {
  begun : (ts : List Transmitter) → AreNames ts l.names
      → g.S.Shelf.files l.shelf ≡ with_outputs (first_empty ts l.its-index) (g.S.Shelf.files l.fn.shelf);
  gone : HasGone (g.S.Shelf.counts l.fn.shelf) (g.S.Shelf.counts l.shelf) Nothing;
}
