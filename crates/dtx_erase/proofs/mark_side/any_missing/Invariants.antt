use Rattle.std.proofs.Common.{◌≡◌, ◌≢◌, ℕ, ◌<◌, false, negsuc, get_or}
use Rattle.std.specs.Int.{w8, cast_signed}
use Rattle.dtx_erase.proofs.mark_side.any_missing.Given as goal

abbrev pub invariant-loop-i : goal.invariant-loop-i
invariant-loop-i l = l.any ≡ false → (j : ℕ) → j < l.i → cast_signed w8 (get_or l.bytes j 0) ≢ negsuc 127
