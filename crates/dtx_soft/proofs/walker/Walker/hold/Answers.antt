use Rattle.std.proofs.Common.{drop, length, sym, subst, take_at, rules, ◌≡◌}
use Rattle.dtx_soft.specs.Least.{HoldPotentials}
use Rattle.dtx_soft.proofs.walker.Walker.hold.Goals as goal

pub returns-clause-potentials : goal.returns-clause-potentials
returns-clause-potentials c = subst (λ entries. HoldPotentials c.args.self.now.table.scale c.args.symbols.now entries)
    (sym (take_at c.fill_potentials.new.potentials
    (drop (length c.fill_potentials.new.potentials) c.args.self.now.potentials.items)
    c.args.self.now.potentials.len whole)) c.fill_potentials.ensures.potentials
  where
    whole : length c.fill_potentials.new.potentials ≡ c.args.self.now.potentials.len
    whole = search rules
