use Rattle.std.proofs.Common.{◌*◌}
use Rattle.dtx_spread.proofs.Moves.{AreMoved}
use Rattle.dtx_spread.proofs.moving.move_pairs.Given as goal

abbrev pub invariant-loop-i : goal.invariant-loop-i
invariant-loop-i l = AreMoved (32 * l.i) l.count l.fn.items l.items
