use Rattle.std.proofs.Common.{◌≡◌, ℕ, ◌+◌, ◌<◌, get_or, length}
use Rattle.dtx_slice.proofs.walk.store_last.Given as goal

abbrev pub invariant-loop-p : goal.invariant-loop-p
invariant-loop-p l = record {
  long : length l.bytes ≡ 828;
  written : (k : ℕ) → k < l.p → get_or l.bytes (816 + k) 0 ≡ get_or l.last k 0;
  before : (j : ℕ) → j < 816 → get_or l.bytes j 0 ≡ get_or l.fn.bytes j 0;
}
