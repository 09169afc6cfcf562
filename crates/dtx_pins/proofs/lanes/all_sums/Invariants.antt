use Rattle.std.proofs.Common.{◌≡◌, ℕ, ◌<◌, List, get_or, length}
use Rattle.dtx_pins.specs.Walks.{sums_of}
use Rattle.dtx_pins.proofs.lanes.all_sums.Given as goal

abbrev pub invariant-loop-e : goal.invariant-loop-e
invariant-loop-e l = record {
  long : length l.all ≡ 12;
  done : (k : ℕ) (default : List (List ℕ)) → k < l.e → get_or l.all k default ≡ sums_of l.sums k;
}
