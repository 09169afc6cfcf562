use Rattle.std.proofs.Common.{◌≡◌, ℕ, ◌+◌, ◌/◌, ◌<◌, ◌^◌, length, get_or}
use Rattle.dtx_make.specs.Made.{number_at}
use Rattle.dtx_make.proofs.made.payload.Given as goal

abbrev pub invariant-loop-byte : goal.invariant-loop-byte
invariant-loop-byte l = record {
  long : length l.byte-items ≡ 184;
  number : l.number ≡ number_at l.seed l.index l.byte-index;
  each : (k : ℕ) → k < l.byte-index → get_or l.byte-items k 0 ≡ number_at l.seed l.index (k + 1) / 2 ^ 56;
}
