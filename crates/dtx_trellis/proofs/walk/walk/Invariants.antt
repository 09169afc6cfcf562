use Rattle.std.proofs.Common.{◌≡◌, ◌*◌, length}
use Rattle.dtx_trellis.specs.Lanes.{StandsAt}
use Rattle.dtx_trellis.proofs.walk.walk.Given as goal

abbrev pub invariant-loop-segment : goal.invariant-loop-segment
invariant-loop-segment l = record {
  long : length l.symbols ≡ 3328;
  stands : StandsAt l.first l.from l.bytes (17 * l.segment) l.lanes l.symbols;
}
