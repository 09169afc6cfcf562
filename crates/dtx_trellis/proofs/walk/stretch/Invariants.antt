use Rattle.std.proofs.Common.{◌≡◌, ◌*◌, ◌<◌, ℕ, List, length}
use Rattle.dtx_trellis.specs.Lanes.{AreNibbles, StandsAt}
use Rattle.dtx_trellis.proofs.walk.stretch.Given as goal

abbrev pub invariant-loop-byte : goal.invariant-loop-byte
invariant-loop-byte l = record {
  long : length l.symbols ≡ 3328;
  nibbles : AreNibbles l.lanes;
  stands : (s : ℕ) (states : List ℕ) → s < 312
      → StandsAt s states l.bytes (17 * l.segment) l.fn.start l.fn.symbols
      → StandsAt s states l.bytes l.byte l.lanes l.symbols;
}
