use Rattle.std.proofs.Common.{◌≡◌, ℕ, ◌+◌, ◌/◌, ◌%◌, ◌<◌, get_or, length}
use Rattle.dtx_rounds.proofs.pins.pairs.Given as goal

abbrev pub invariant-loop-e : goal.invariant-loop-e
invariant-loop-e l = record {
  pins : (e : ℕ) → e < l.e → get_or l.row e 0 ≡ get_or l.bytes e 0 / l.divisor % 4 + get_or l.unknown e 0;
  long : length l.row ≡ 12;
}
