use Rattle.std.proofs.Common.{rules}
use Rattle.dtx_erase.proofs.erasing.accept.Goals as goal

pub returns-then-is_near-clause-answer : goal.returns-then-is_near-clause-answer
returns-then-is_near-clause-answer g c = search rules

pub returns-else-is_near-clause-answer : goal.returns-else-is_near-clause-answer
returns-else-is_near-clause-answer g c = search rules
