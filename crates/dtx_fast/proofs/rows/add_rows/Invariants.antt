use Rattle.std.proofs.Common.{◌≡◌, ℕ, ◌<◌, ◌≤◌, get_or, length, bit_xor}
use Rattle.dtx_fast.proofs.rows.add_rows.Given as goal

abbrev pub invariant-loop-q : goal.invariant-loop-q
invariant-loop-q g l = record {
  done : (q : ℕ) → q < l.q → get_or l.values q 0
      ≡ bit_xor (get_or l.fn.values q 0) (bit_xor (get_or l.fn.low q 0) (get_or l.fn.high q 0));
  left : (q : ℕ) → l.q ≤ q → get_or l.values q 0 ≡ get_or l.fn.values q 0;
  long : length l.values ≡ g.row.W;
}
