use Rattle.std.proofs.Common.{◌≡◌, ℕ, ◌+◌, ◌<◌, ◌≤◌, bit_xor, get_or, length}
use Rattle.dtx_galois.specs.Field.{mul}
use Rattle.dtx_erase.proofs.values.multiply.Given as goal

abbrev pub invariant-loop-k : goal.invariant-loop-k
invariant-loop-k l = record {
  done : (k : ℕ) → l.k ≤ k → k ≤ l.fn.degree → get_or l.coefficients (k + 1) 0
      ≡ bit_xor (get_or l.fn.coefficients (k + 1) 0) (mul l.fn.power.0 (get_or l.fn.coefficients k 0));
  left : (k : ℕ) → k ≤ l.k → get_or l.coefficients k 0 ≡ get_or l.fn.coefficients k 0;
  behind : (k : ℕ) → l.fn.degree < k → get_or l.coefficients (k + 1) 0 ≡ get_or l.fn.coefficients (k + 1) 0;
  within : l.k ≤ l.fn.degree + 1;
  long : length l.coefficients ≡ 256;
}
