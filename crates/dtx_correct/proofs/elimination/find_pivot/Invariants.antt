use Rattle.std.proofs.Common.{◌≡◌, ℕ, ◌<◌, get_or, true}
use Rattle.dtx_laws.specs.Locator.{combination, is_marked}
use Rattle.dtx_correct.specs.Elimination.{vector}
use Rattle.dtx_correct.proofs.elimination.find_pivot.Given as goal

abbrev pub invariant-loop-k : goal.invariant-loop-k
invariant-loop-k l = (k : ℕ) → k < l.k → is_marked l.fn.kept k ≡ true
    → combination (vector l.fn.width l.fn.vectors k) (λ i. get_or l.fn.syndromes i 0) l.fn.equation ≡ 0
