use Rattle.std.proofs.Common.{◌≡◌, ℕ, ◌+◌, ◌-◌, ◌*◌, ◌/◌, ◌%◌, ◌<◌, get_or, length}
use Rattle.dtx_slice.proofs.walk.last_precoder_bits.Given as goal

abbrev pub invariant-loop-e : goal.invariant-loop-e
invariant-loop-e l = record {
  long : length l.precoder_bits ≡ 12;
  written : (k : ℕ) → k < l.e → get_or l.precoder_bits k 0 ≡ get_or l.levels (3300 + (k + 12 - 4 *
      (l.first % 3)) % 12) 0 / 4;
}
