use Rattle.std.proofs.Common.{◌≡◌, ◌-◌, get_or}
use Rattle.dtx_laws.specs.Locator.{low_value}
use Rattle.dtx_fast.specs.Recurrence.{discrepancy, quotient, turned}
use Rattle.dtx_fast.proofs.repair.error_value.Given as goal

abbrev pub invariant-loop-k : goal.invariant-loop-k
invariant-loop-k l = record {
  next : l.quotient.0 ≡ quotient l.fn.at.0 (λ i. get_or l.fn.coefficients i 0) l.k;
  sum : l.sum.0 ≡ discrepancy l.k (quotient l.fn.at.0 (λ i. get_or l.fn.coefficients i 0))
      (λ i. get_or l.fn.syndromes i 0) (l.fn.order - 1);
  value : l.value.0 ≡ low_value (turned l.k (quotient l.fn.at.0 (λ i. get_or l.fn.coefficients i 0))) l.fn.at.0;
}
