use Rattle.std.proofs.Common.{◌≡◌, ℕ, ◌+◌, ◌*◌, ◌<◌, get_or, pos}
use Rattle.dtx_soft.proofs.coders.gather_segment.Given as goal

abbrev pub invariant-loop-r : goal.invariant-loop-r
invariant-loop-r l = record {
  symbols : (r : ℕ) → r < l.r
      → get_or l.symbols (l.at + r) (pos 0) ≡ get_or l.segment (l.from + 12 * r) (pos 0);
  before : (k : ℕ) → k < l.at → get_or l.symbols k (pos 0) ≡ get_or l.fn.symbols k (pos 0);
}
