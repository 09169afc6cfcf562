use Rattle.std.proofs.Common.{◌≡◌, ℕ, ◌<◌, ◌≤◌, get_or, length}
use Rattle.dtx_galois.specs.Field.{mul, pow}
use Rattle.dtx_fast.proofs.places.Places.move_on.Given as goal

abbrev pub invariant-loop-k : goal.invariant-loop-k
invariant-loop-k l = record {
  done : (k : ℕ) → k < l.k
      → get_or l.coefficients k 0 ≡ mul (get_or l.fn.coefficients k 0) (pow (pow (pow 2 254) 32) k);
  left : (k : ℕ) → l.k ≤ k → get_or l.coefficients k 0 ≡ get_or l.fn.coefficients k 0;
  long : length l.coefficients ≡ 128;
}
