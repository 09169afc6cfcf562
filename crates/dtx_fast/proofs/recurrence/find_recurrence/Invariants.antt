use Rattle.std.proofs.Common.{◌≤◌, ◌/◌, get_or}
use Rattle.dtx_fast.specs.Recurrence.{IsStage}
use Rattle.dtx_fast.proofs.recurrence.find_recurrence.Given as goal

abbrev pub invariant-loop-n : goal.invariant-loop-n
invariant-loop-n l = record {
  stage : IsStage l.n l.stage.order l.stage.gap l.stage.inverse.0 (λ i. get_or l.fn.syndromes i 0)
      (λ i. get_or l.stage.coefficients i 0) (λ i. get_or l.stage.before i 0);
  half : l.stage.order ≤ l.fn.count / 2;
}
