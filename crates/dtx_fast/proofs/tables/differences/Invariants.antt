use Rattle.std.proofs.Common.{◌≡◌, ℕ, ◌-◌, ◌<◌, get_or, length, bit_xor}
use Rattle.dtx_fast.proofs.tables.differences.Given as goal

abbrev pub invariant-loop-k : goal.invariant-loop-k
invariant-loop-k l = record {
  done : (k : ℕ) → k < l.k → get_or l.differences k 0
      ≡ bit_xor (get_or l.fn.parity (length l.fn.parity - 1 - k) 0) (get_or l.fn.right (length l.fn.parity - 1 - k) 0);
  long : length l.differences ≡ 20;
}
