use Rattle.std.proofs.Common.{◌≡◌, ◌≤◌, ◌+◌, get_or, length}
use Rattle.dtx_laws.specs.Locator.{is_marked}
use Rattle.dtx_correct.specs.Elimination.{Solves, vector, count}
use Rattle.dtx_correct.proofs.locator.find_locator.Given as goal

abbrev pub invariant-loop-equation : goal.invariant-loop-equation
invariant-loop-equation l = record {
  solves : Solves (l.fn.equations + 1) l.equation (λ i. get_or l.fn.syndromes i 0) (is_marked l.kept)
      (vector (l.fn.equations + 1) l.vectors);
  count : l.fn.equations + 1 ≤ count (is_marked l.kept) (l.fn.equations + 1) + l.equation;
  long : (length l.vectors ≡ 128) × (length l.kept ≡ 128);
}
