use Rattle.std.proofs.Common.{◌≡◌, ℕ, ◌+◌, ◌*◌, ◌<◌, get_or, length}
use Rattle.dtx_galois.specs.Field.{mul, pow}
use Rattle.dtx_fast.specs.Recurrence.{walked}
use Rattle.dtx_fast.proofs.places.Places.walk.Given as goal

abbrev pub invariant-loop-block : goal.invariant-loop-block
invariant-loop-block l = record {
  done : (q : ℕ) → q < 32 * l.block → get_or l.values q 0
      ≡ walked (l.fn.found.order + 1) (λ i. get_or l.fn.found.coefficients i 0) (pow (pow 2 254) q);
  moved : (k : ℕ) → k < l.fn.found.order + 1 → get_or l.coefficients k 0
      ≡ mul (get_or l.fn.found.coefficients k 0) (pow (pow (pow 2 254) (32 * l.block)) k);
  long : length l.coefficients ≡ 128;
  room : length l.values ≡ 256;
}
