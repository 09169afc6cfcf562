use Rattle.std.proofs.Common.{◌≡◌, ℕ, ◌<◌, get_or, length}
use Rattle.dtx_fast.proofs.tables.widened.Given as goal

abbrev pub invariant-loop-i : goal.invariant-loop-i
invariant-loop-i l = record {
  done : (i : ℕ) → i < l.i → get_or l.syndromes i 0 ≡ get_or l.fn.row i 0;
  long : length l.syndromes ≡ 256;
}
