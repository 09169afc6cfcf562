use Rattle.std.proofs.Common.{◌≡◌, ℕ, ◌+◌, ◌*◌, ◌%◌, ◌<◌, get_or, length}
use Rattle.dtx_slice.proofs.walk.laid_out.Given as goal

abbrev pub invariant-loop-p : goal.invariant-loop-p
invariant-loop-p l = record {
  long : length l.lanes ≡ 16;
  small : (k : ℕ) → k < 16 → get_or l.lanes k 0 < 8;
  written : (k : ℕ) → k < l.p → get_or l.lanes k 0 ≡ 4 * get_or l.precoder_bits ((k + 4 * (l.first % 3)) % 12) 0;
}
