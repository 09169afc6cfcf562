use Rattle.std.proofs.Common.{◌≡◌, ℕ, ◌+◌, ◌*◌, ◌<◌, get_or, length}
use Rattle.std.specs.Int.RustNames.{bit_xor}
use Rattle.dtx_outer.proofs.whitening.whiten_to.Given as goal

abbrev pub invariant-loop-c : goal.invariant-loop-c
invariant-loop-c g l = record {
  long : length l.out ≡ g.row.K;
  done : (j : ℕ) → j < 16 * l.c
      → get_or l.out j 0 ≡ bit_xor (get_or l.head j 0) (get_or (g.W.Whitener.bytes l.whitener) (l.from + j) 0);
}
