use Rattle.std.proofs.Common.{◌≡◌, ℕ, ◌+◌, ◌/◌, ◌<◌, pos, get_or, length}
use Rattle.dtx_trellis.specs.Trellis.{symbol_of}
use Rattle.dtx_trellis.proofs.walk.store_last.Given as goal

abbrev pub invariant-loop-p : goal.invariant-loop-p
invariant-loop-p l = record {
  long : length l.symbols ≡ 3328;
  written : (k : ℕ) → k < l.p → get_or l.symbols (l.place + k) (pos 0) ≡ symbol_of (get_or l.last k 0 / 2);
  before : (i : ℕ) → i < l.place → get_or l.symbols i (pos 0) ≡ get_or l.fn.symbols i (pos 0);
}
