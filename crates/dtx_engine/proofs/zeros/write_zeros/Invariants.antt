use Rattle.std.proofs.Common.{◌≡◌, ◌-◌, ◌≤◌, Option}
use Rattle.std.specs.Prelude.{replicate}
use Rattle.dtx_outside.specs.Counts.{HasGone, Nothing}
use Rattle.dtx_outside.specs.Shelf.{Files}
use Rattle.dtx_engine.specs.Made.{Made, joined, only}
use Rattle.dtx_engine.proofs.zeros.write_zeros.Given as goal

abbrev pub invariant-loop-left : goal.invariant-loop-left
invariant-loop-left g l = record {
  most : l.left ≤ l.count;
  written : (start : Option Files) (given : Made)
      → g.W.Outlet.gathered l.fn.outlet start given (g.S.Shelf.files l.fn.shelf)
      → g.W.Outlet.gathered l.outlet start (joined given (only (replicate (l.count - l.left) 0)))
      (g.S.Shelf.files l.shelf);
  kept : g.W.Outlet.names l.outlet ≡ g.W.Outlet.names l.fn.outlet;
  gone : HasGone (g.S.Shelf.counts l.fn.shelf) (g.S.Shelf.counts l.shelf) Nothing;
}

abbrev pub decreases-loop-left : goal.decreases-loop-left
decreases-loop-left g l = l.left
