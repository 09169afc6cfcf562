use Rattle.std.proofs.Common.{subst}
use Rattle.dtx_soft.specs.Least.{HoldPotentials}
use Rattle.dtx_soft.proofs.soft.hold_last.Goals as goal

pub returns-clause-potentials : goal.returns-clause-potentials
returns-clause-potentials c =
    subst (λ symbols. HoldPotentials c.args.walker.now.table.scale symbols c.hold.new.self.potentials.items)
    c.gather.ensures c.hold.ensures.potentials
