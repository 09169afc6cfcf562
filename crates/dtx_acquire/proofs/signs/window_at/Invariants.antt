use Rattle.std.proofs.Common.{◌≡◌, ◌+◌, ◌*◌, ◌<◌, ℕ, drop, get_or, length, take}
use Rattle.dtx_acquire.specs.Agreement.{packed}
use Rattle.dtx_acquire.proofs.signs.window_at.Given as goal

abbrev pub invariant-loop-k : goal.invariant-loop-k
invariant-loop-k l = record {
  long : length l.words ≡ 10;
  done : (i : ℕ) → i < l.k → get_or l.words i 0 ≡ packed (take 64 (drop (l.place + 64 * i) l.symbols));
}
