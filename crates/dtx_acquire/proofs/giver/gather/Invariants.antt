use Rattle.std.proofs.Common.{◌≡◌, ◌+◌, ◌*◌, ◌<◌, ℕ, [], drop, get_or, length, take}
use Rattle.dtx_acquire.proofs.giver.gather.Given as goal

abbrev pub invariant-loop-i : goal.invariant-loop-i
invariant-loop-i l = record {
  long : length l.segments ≡ length l.initial.segments;
  done : (k : ℕ) → k < l.i → get_or l.segments k [] ≡ take 832 (drop (0 + 832 * k) l.symbols);
}
