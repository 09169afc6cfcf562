use Rattle.std.proofs.Common.{◌≡◌, ℕ, ◌<◌, pos, get_or, length}
use Rattle.std.specs.Int.{w8, cast_signed}
use Rattle.dtx_erase.proofs.decoder.as_bytes.Given as goal

abbrev pub invariant-loop-i : goal.invariant-loop-i
invariant-loop-i l = record {
  long : length l.bytes ≡ 832;
  done : (j : ℕ) → j < l.i → cast_signed w8 (get_or l.bytes j 0) ≡ get_or l.segment j (pos 0);
}
