use Rattle.std.proofs.Common.{◌≡◌, ℕ, ◌+◌, ◌<◌, get_or, length}
use Rattle.dtx_galois.specs.Field.{pow}
use Rattle.dtx_fast.specs.Recurrence.{walked}
use Rattle.dtx_fast.proofs.repair.walk.Given as goal

abbrev pub invariant-loop-exponent : goal.invariant-loop-exponent
invariant-loop-exponent l = record {
  done : (q : ℕ) → q < l.exponent → get_or l.values q 0
      ≡ walked (l.fn.found.order + 1) (λ i. get_or l.fn.found.coefficients i 0) (pow (pow 2 254) q);
  long : length l.values ≡ 256;
}
