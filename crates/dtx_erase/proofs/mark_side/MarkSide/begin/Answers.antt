use Rattle.std.proofs.Common.{arith}
use Rattle.dtx_erase.proofs.Quiet.{known_afresh}
use Rattle.dtx_erase.proofs.mark_side.MarkSide.begin.Goals as goal

pub invariant_of-self : goal.invariant_of-self
invariant_of-self c = let d = c.begin.ensures in (known_afresh c.begin.new.self d.none c.known.ensures, omega arith)
