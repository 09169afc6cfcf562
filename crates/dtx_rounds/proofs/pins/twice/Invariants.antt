use Rattle.std.proofs.Common.{◌≡◌, ℕ, ◌%◌, ◌<◌, get_or, length}
use Rattle.dtx_rounds.proofs.pins.twice.Given as goal

abbrev pub invariant-loop-n : goal.invariant-loop-n
invariant-loop-n l = record {
  row : (n : ℕ) → n < l.n → get_or l.both n 0 ≡ get_or l.row (n % 12) 0;
  long : length l.both ≡ 24;
}
