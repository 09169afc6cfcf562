use Rattle.std.proofs.Common.{◌≡◌, ℕ, ◌<◌, ◌≤◌, get_or, bit_xor}
use Rattle.dtx_galois.specs.Field.{mul}
use Rattle.dtx_correct.proofs.elimination.add_scaled.Given as goal

abbrev pub invariant-loop-i : goal.invariant-loop-i
invariant-loop-i l = record {
  done : (k : ℕ) → k < l.i
      → get_or l.vector k 0 ≡ bit_xor (get_or l.fn.vector k 0) (mul l.factor.0 (get_or l.other k 0));
  left : (k : ℕ) → l.i ≤ k → get_or l.vector k 0 ≡ get_or l.fn.vector k 0;
}
