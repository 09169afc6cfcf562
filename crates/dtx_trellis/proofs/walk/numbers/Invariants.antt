use Rattle.std.proofs.Common.{◌≡◌, ℕ, ◌+◌, ◌-◌, ◌*◌, ◌%◌, ◌<◌, get_or, length}
use Rattle.dtx_trellis.proofs.walk.numbers.Given as goal

abbrev pub invariant-loop-e : goal.invariant-loop-e
invariant-loop-e l = record {
  long : length l.numbers ≡ 12;
  done : (k : ℕ) → k < l.e → get_or l.numbers k 0 ≡ get_or l.fn.lanes ((k + 12 - 4 * (l.first % 3)) % 12) 0 % 8;
}
