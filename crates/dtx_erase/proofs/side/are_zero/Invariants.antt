use Rattle.std.proofs.Common.{◌≡◌, ℕ, ◌<◌, false, get_or}
use Rattle.dtx_erase.proofs.side.are_zero.Given as goal

abbrev pub invariant-loop-i : goal.invariant-loop-i
invariant-loop-i l = record {
  none : l.any ≡ false → (j : ℕ) → j < l.i → get_or l.bytes j 0 ≡ 0;
  zeros : ((j : ℕ) → get_or l.bytes j 0 ≡ 0) → l.any ≡ false;
}
