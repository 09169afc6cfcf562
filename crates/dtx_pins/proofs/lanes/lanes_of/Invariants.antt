use Rattle.std.proofs.Common.{◌≡◌, ℕ, ◌<◌, get_or, length}
use Rattle.dtx_pins.proofs.lanes.lanes_of.Given as goal

abbrev pub invariant-loop-e : goal.invariant-loop-e
invariant-loop-e l = record {
  long : length l.lanes ≡ 16;
  done : (k default : ℕ) → k < l.e → get_or l.lanes k default ≡ get_or l.row k 0;
}
