use Rattle.std.proofs.Common.{◌≡◌, ℕ, ◌+◌, ◌-◌, ◌*◌, ◌<◌, ◌≤◌, get_or, length}
use Rattle.dtx_slice.specs.Unrolled.{later_byte}
use Rattle.dtx_slice.proofs.walk.walk_whole.Given as goal

abbrev pub invariant-loop-byte : goal.invariant-loop-byte
invariant-loop-byte l = record {
  from : l.fn.from ≤ l.byte;
  long : length l.bytes ≡ 828;
  lanes : length l.before ≡ 16;
  small : (p : ℕ) → p < length l.before → get_or l.before p 0 < 8;
  last : (p : ℕ) → p < 12 → get_or l.before p 0 ≡ get_or l.levels (12 * (4 * l.byte - 1) + p) 0;
  bytes : (h p : ℕ) → l.fn.from ≤ h → h < l.byte → p < 12 → get_or l.bytes (12 * h + p) 0 ≡ later_byte l.levels h p;
  before : (j : ℕ) → j < 12 * l.fn.from → get_or l.bytes j 0 ≡ get_or l.fn.bytes j 0;
}
