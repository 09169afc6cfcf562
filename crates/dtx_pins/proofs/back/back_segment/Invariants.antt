use Rattle.std.proofs.Common.{◌≡◌, ℕ, ◌+◌, ◌-◌, ◌*◌, ◌<◌, [], get_or, length}
use Rattle.dtx_pins.specs.Walks.{sums_of}
use Rattle.dtx_pins.specs.Steps.{AreBounded, AreMultiples}
use Rattle.dtx_pins.proofs.PinnedWalks.{LeadsTo}
use Rattle.dtx_pins.proofs.back.back_segment.Given as goal

abbrev pub invariant-loop-r : goal.invariant-loop-r
invariant-loop-r l = record {
  long : length l.cells ≡ 69;
  pins : (k : ℕ) → k < l.r → get_or l.cells k [] ≡ get_or l.fn.cells k [];
  bounded : (n : ℕ) → ((e : ℕ) → e < 12 → AreBounded n (sums_of l.fn.sums e))
      → (e : ℕ) → e < 12 → AreBounded (7168 * (69 - l.r) + n) (sums_of l.sums e);
  multiples : (e : ℕ) → e < 12 → AreMultiples (sums_of l.sums e);
  walked : LeadsTo l.weights.scale l.turn l.heard l.fn.cells l.r l.cells (sums_of l.fn.sums) (sums_of l.sums);
}
