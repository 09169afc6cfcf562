use Rattle.std.proofs.Common.{◌+◌, ◌<◌, length, subst, take, refl, rules}
use Rattle.dtx_soft.specs.Least.{ArePotentials}
use Rattle.dtx_soft.proofs.Potentials.{front_potentials}
use Rattle.dtx_soft.proofs.soft.Soft.best.Goals as goal

pub returns-clause-potentials : goal.returns-clause-potentials
returns-clause-potentials c = subst (λ decoder. ArePotentials decoder.scale c.args.symbols.now
    (take (length c.args.symbols.now + 1) c.find.new.self.potentials.items)) c.self.view_is
    (front_potentials c.self.inside.walker.table.scale c.args.symbols.now c.find.new.self.potentials.items
    (length c.args.symbols.now) refl enough c.find.ensures.potentials)
  where
    enough : length c.args.symbols.now < length c.find.new.self.potentials.items
    enough = search rules
