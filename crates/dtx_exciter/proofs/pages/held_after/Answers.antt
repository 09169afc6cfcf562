use Rattle.std.proofs.Common.{rules}
use Rattle.dtx_exciter.proofs.pages.held_after.Goals as goal

pub returns-in-Some-before : goal.returns-in-Some-before
returns-in-Some-before c = search rules

pub returns-in_default : goal.returns-in_default
returns-in_default c = search rules
