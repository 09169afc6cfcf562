use Rattle.std.proofs.Common.{arith}
use Rattle.dtx_erase.proofs.Quiet.{known_afresh}
use Rattle.dtx_erase.proofs.mark_side.MarkSide.new.Goals as goal

pub invariant_of-result : goal.invariant_of-result
invariant_of-result c = (known_afresh c.in_ok-side.side c.in_ok-side.ensures c.known.ensures, omega arith)
