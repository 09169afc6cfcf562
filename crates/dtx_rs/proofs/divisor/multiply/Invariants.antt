use Rattle.std.proofs.Common.{◌≡◌, ℕ, ◌<◌, ◌≤◌, ◌∷◌, get_or, bit_xor}
use Rattle.dtx_galois.specs.Field.{mul}
use Rattle.dtx_rs.proofs.divisor.multiply.Given as goal

abbrev pub invariant-loop-i : goal.invariant-loop-i
invariant-loop-i l = record {
  done : (k : ℕ) → k < l.i
      → get_or l.divisor k 0 ≡ bit_xor (get_or l.fn.divisor k 0) (mul l.root.0 (get_or (1 ∷ l.fn.divisor) k 0));
  left : (k : ℕ) → l.i ≤ k → get_or l.divisor k 0 ≡ get_or l.fn.divisor k 0;
  before : l.before.0 ≡ get_or (1 ∷ l.fn.divisor) l.i 0;
}
