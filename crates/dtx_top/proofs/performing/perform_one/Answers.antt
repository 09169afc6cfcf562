use Rattle.std.proofs.Common.{rules}
use Rattle.dtx_top.proofs.Performed.{performed}
use Rattle.dtx_top.proofs.performing.perform_one.Goals as goal

pub returns-in-Repeat-clause-performed : goal.returns-in-Repeat-clause-performed
returns-in-Repeat-clause-performed g c = search (rules, performed)

pub returns-in-Refine-clause-performed : goal.returns-in-Refine-clause-performed
returns-in-Refine-clause-performed g c = search (rules, performed)
