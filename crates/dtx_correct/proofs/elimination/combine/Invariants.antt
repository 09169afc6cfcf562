use Rattle.std.proofs.Common.{◌≡◌, ◌+◌, drop, get_or}
use Rattle.dtx_laws.specs.Locator.{combination}
use Rattle.dtx_correct.proofs.elimination.combine.Given as goal

abbrev pub invariant-loop-i : goal.invariant-loop-i
invariant-loop-i l = l.sum.0 ≡ combination (drop l.i l.coefficients) (λ i. get_or l.syndromes i 0) (l.equation + l.i)
