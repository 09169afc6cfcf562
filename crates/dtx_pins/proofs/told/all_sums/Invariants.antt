use Rattle.std.proofs.Common.{◌≡◌, ℕ, ◌+◌, ◌*◌, ◌<◌, [], get_or, length, pos, ◌-ℤ◌}
use Rattle.dtx_pins.specs.Steps.{cost_at}
use Rattle.dtx_pins.specs.Told.{excess_at, from_beginning, less_by}
use Rattle.dtx_pins.proofs.told.all_sums.Given as goal

abbrev pub invariant-loop-e : goal.invariant-loop-e
invariant-loop-e l = record {
  long : length l.sums ≡ 12;
  done : (k : ℕ) → k < l.e → (p a b : ℕ) → p < 2 → a < 2 → b < 2 → pos (cost_at (get_or l.sums k []) p (2 * a + b))
      ≡ (pos 1_000_000_000 -ℤ less_by p a b (from_beginning l.segments (excess_at l.totals k)));
}
