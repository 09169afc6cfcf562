use Rattle.std.proofs.Common.{◌≡◌, ℕ, ◌-◌, ◌*◌, ◌<◌, [], get_or, length}
use Rattle.dtx_pins.specs.Walks.{sums_of, AreWalked}
use Rattle.dtx_pins.specs.Steps.{AreBounded, AreMultiples}
use Rattle.dtx_pins.proofs.back.backward.Given as goal

abbrev pub invariant-loop-i : goal.invariant-loop-i
invariant-loop-i l = record {
  long : length l.cells ≡ 69 * length l.heard;
  pins : (k : ℕ) → k < 69 * l.i → get_or l.cells k [] ≡ get_or l.fn.cells k [];
  bounded : (e : ℕ) → e < 12 → AreBounded (7168 * (69 * (length l.heard - l.i))) (sums_of l.sums e);
  multiples : (e : ℕ) → e < 12 → AreMultiples (sums_of l.sums e);
  walked : AreWalked l.weights.scale (69 * l.i) l.fn.cells l.heard (sums_of l.sums) l.cells;
}
