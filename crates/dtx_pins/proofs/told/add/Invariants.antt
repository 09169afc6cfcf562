use Rattle.std.proofs.Common.{◌≡◌, ℕ, ◌<◌, ◌≤◌}
use Rattle.dtx_pins.specs.Told.{excess_at, excess_with}
use Rattle.dtx_pins.proofs.told.add.Given as goal

abbrev pub invariant-loop-e : goal.invariant-loop-e
invariant-loop-e l = record {
  totals : (k : ℕ) → k < l.e
      → excess_at l.totals k ≡ excess_with (excess_at l.fn.totals k) (excess_at l.fn.told.more k);
  left : (k : ℕ) → l.e ≤ k → excess_at l.totals k ≡ excess_at l.fn.totals k;
}
