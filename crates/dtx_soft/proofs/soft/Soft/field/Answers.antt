use Rattle.std.proofs.Common.{◌+◌, ◌*◌, ◌<◌, length, subst, sym, take, rules}
use Rattle.dtx_soft.specs.Least.{ArePotentials}
use Rattle.dtx_soft.specs.Coders.{coder_symbols}
use Rattle.dtx_soft.proofs.Potentials.{front_potentials}
use Rattle.dtx_soft.proofs.Softened.{length-coder_symbols}
use Rattle.dtx_soft.proofs.soft.Soft.field.Goals as goal

pub returns-clause-potentials : goal.returns-clause-potentials
returns-clause-potentials c = subst (λ decoder. ArePotentials decoder.scale (coder_symbols c.args.segments.now 11)
    (take (69 * length c.args.segments.now + 1) c.hold_last.new.walker.potentials.items)) c.self.view_is
    (front_potentials c.self.inside.walker.table.scale (coder_symbols c.args.segments.now 11)
    c.hold_last.new.walker.potentials.items (69 * length c.args.segments.now)
    (sym (length-coder_symbols c.args.segments.now 11)) enough c.hold_last.ensures.potentials)
  where
    enough : 69 * length c.args.segments.now < length c.hold_last.new.walker.potentials.items
    enough = search rules
