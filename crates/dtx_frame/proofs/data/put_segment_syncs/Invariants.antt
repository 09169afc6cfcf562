use Rattle.std.proofs.Common.{◌≡◌, ℕ, ◌+◌, ◌*◌, ◌<◌, ◌++◌, drop, length, take}
use Rattle.dtx_frame.specs.Segments.{segment_sync}
use Rattle.dtx_frame.proofs.data.put_segment_syncs.Given as goal

abbrev pub invariant-loop-s : goal.invariant-loop-s
invariant-loop-s l = record {
  long : length l.symbols ≡ 3328;
  done : (k : ℕ) → k < l.s
      → take 832 (drop (832 * k) l.symbols) ≡ segment_sync ++ take 828 (drop (832 * k + 4) l.fn.symbols);
  rest : drop (832 * l.s) l.symbols ≡ drop (832 * l.s) l.fn.symbols;
}
