use Rattle.std.proofs.Common.{◌≡◌, ◌+◌, ◌-◌, ◌++◌, ◌≤◌, ℤ, List, length, take}
use Rattle.dtx_files.specs.Symbols.{segment_bytes}
use Rattle.dtx_jobs.proofs.acquisition.restore_all.Given as goal

abbrev pub invariant-loop-done : goal.invariant-loop-done
invariant-loop-done g l = record {
  within : l.done ≤ length l.piece;
  stands : (before : List ℤ) → g.R.Restorer.stands l.fn.restorer before
      → g.R.Restorer.stands l.restorer (before ++ take l.done l.piece);
  made : (before : List ℤ) → g.R.Restorer.stands l.fn.restorer before
      → segment_bytes ((g.R.Restorer.restoring l.fn.restorer).so_far (before ++ take l.done l.piece))
      ≡ segment_bytes ((g.R.Restorer.restoring l.fn.restorer).so_far before) ++ l.gathered;
  kept : g.R.Restorer.restoring l.restorer ≡ g.R.Restorer.restoring l.fn.restorer;
  room : length l.gathered + g.R.Restorer.held l.restorer ≤ g.R.Restorer.held l.fn.restorer + l.done;
}

abbrev pub decreases-loop-done : goal.decreases-loop-done
decreases-loop-done g l = length l.piece - l.done
