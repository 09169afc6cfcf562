use Rattle.std.proofs.Common.{◌≡◌, ℕ, ◌+◌, ◌<◌, pos, get_or, length}
use Rattle.dtx_trellis.specs.Trellis.{symbol_of}
use Rattle.dtx_frame.specs.Segments.{segment_sync}
use Rattle.dtx_frame.proofs.data.data_segment.Given as goal

abbrev pub invariant-loop-d : goal.invariant-loop-d
invariant-loop-d l = record {
  long : length l.out ≡ 832;
  front : (k : ℕ) → k < 4 → get_or l.out k (pos 0) ≡ get_or segment_sync k (pos 0);
  values : (k : ℕ) → k < l.d → get_or l.out (4 + k) (pos 0) ≡ symbol_of (get_or l.levels k 0);
}
