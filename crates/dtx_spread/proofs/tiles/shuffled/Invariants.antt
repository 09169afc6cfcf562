use Rattle.std.proofs.Common.{◌*◌}
use Rattle.dtx_spread.proofs.Filled.{AreFilled}
use Rattle.dtx_spread.proofs.Shuffling.{shuffled_byte}
use Rattle.dtx_spread.proofs.tiles.shuffled.Given as goal

abbrev pub invariant-loop-i : goal.invariant-loop-i
invariant-loop-i l = AreFilled (2 * l.i) 16 (shuffled_byte l.tile) l.rows
