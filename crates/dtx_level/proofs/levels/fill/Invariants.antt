use Rattle.std.proofs.Common.{◌≡◌, ◌<◌, ◌-ℤ◌, ℕ, pos, get_or, length}
use Rattle.dtx_level.specs.Levelled.{levelled_symbol}
use Rattle.dtx_level.proofs.levels.fill.Given as goal

abbrev pub invariant-loop-n : goal.invariant-loop-n
invariant-loop-n l = record {
  long : length l.table ≡ 256;
  done : (k : ℕ) → k < l.n → get_or l.table k (pos 0) ≡ levelled_symbol l.gain l.constant (pos k -ℤ pos 128);
}
