use Rattle.std.proofs.Common.{[]}
use Rattle.std.specs.Prelude.{Option}
use Rattle.dtx_make.specs.Made.{made_stream}
use Rattle.dtx_outside.specs.Counts.{HasGone, Nothing}
use Rattle.dtx_outside.specs.Shelf.{Files, IsWritten, IsGathered}
use Rattle.dtx_packet_jobs.proofs.make_command.write_made.Given as goal

abbrev pub invariant-loop-index : goal.invariant-loop-index
invariant-loop-index g l = record {
  written : (start : Option Files) → IsWritten start l.output [] (g.S.Shelf.files l.fn.shelf)
      → IsGathered start l.output (made_stream l.seed l.index) l.made (g.S.Shelf.files l.shelf);
  gone : HasGone (g.S.Shelf.counts l.fn.shelf) (g.S.Shelf.counts l.shelf) Nothing;
}
