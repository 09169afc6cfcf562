use Rattle.std.proofs.Common.{◌≡◌, ℕ, ◌<◌, false}
use Rattle.dtx_laws.specs.Locator.{is_marked}
use Rattle.dtx_correct.proofs.locator.first_kept.Given as goal

abbrev pub invariant-loop-k : goal.invariant-loop-k
invariant-loop-k l = (j : ℕ) → j < l.k → is_marked l.fn.kept j ≡ false
