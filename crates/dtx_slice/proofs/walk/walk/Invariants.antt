use Rattle.std.proofs.Common.{◌≡◌, ℕ, ◌+◌, ◌*◌, ◌<◌, get_or, length}
use Rattle.dtx_slice.specs.Unrolled.{byte_back}
use Rattle.dtx_slice.proofs.walk.walk.Given as goal

abbrev pub invariant-loop-segment : goal.invariant-loop-segment
invariant-loop-segment l = record {
  long : length l.bytes ≡ 828;
  bytes : (j : ℕ) → j < 12 * (17 * l.segment + 1) → get_or l.bytes j 0 ≡ byte_back l.first l.precoder_bits l.levels j;
}
