use Rattle.std.proofs.Common.{◌≡◌, get_or}
use Rattle.dtx_galois.specs.Field.{pow}
use Rattle.dtx_fast.specs.Recurrence.{walked}
use Rattle.dtx_fast.proofs.repair.value_at.Given as goal

abbrev pub invariant-loop-k : goal.invariant-loop-k
invariant-loop-k l = record {
  sum : l.sum.0 ≡ walked l.k (λ i. get_or l.fn.found.coefficients i 0) l.fn.at.0;
  power : l.power.0 ≡ pow l.fn.at.0 l.k;
}
