use Rattle.std.proofs.Common.{arith}
use Rattle.dtx_erase.proofs.Quiet.{known_afresh}
use Rattle.dtx_erase.proofs.mark_side.MarkSide.last_word.Goals as goal

pub invariant_of-self : goal.invariant_of-self
invariant_of-self c = grind (arith, known_afresh, c.self.invariant, c.last_word-word.ensures.groups, c.known.ensures)
