use Rattle.std.proofs.Common.{◌≡◌, ℕ, ◌+◌, ◌<◌, get_or, length}
use Rattle.dtx_fast.proofs.places.put.Given as goal

abbrev pub invariant-loop-i : goal.invariant-loop-i
invariant-loop-i l = record {
  before : (q : ℕ) → q < l.fn.start → get_or l.values q 0 ≡ get_or l.fn.values q 0;
  done : (q : ℕ) → q < l.i → get_or l.values (l.fn.start + q) 0 ≡ get_or l.fn.block q 0;
  long : length l.values ≡ 256;
}
