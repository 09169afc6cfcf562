use Rattle.std.proofs.Common.{◌≡◌, ℕ, ◌+◌, ◌*◌, ◌%◌, ◌<◌, get_or, length}
use Rattle.dtx_trellis.proofs.walk.laid_out.Given as goal

abbrev pub invariant-loop-p : goal.invariant-loop-p
invariant-loop-p l = record {
  long : length l.lanes ≡ 16;
  done : (k : ℕ) → k < l.p → get_or l.lanes k 0 ≡ get_or l.from ((k + 4 * (l.first % 3)) % 12) 0 % 8;
  small : (k : ℕ) → k < 16 → get_or l.lanes k 0 < 16;
}
