use Rattle.std.proofs.Common.{sym, ap, ◌∙◌}
use Rattle.dtx_level.specs.Leveller.{Holding}
use Rattle.dtx_level.proofs.Steps.{settled_off}
use Rattle.dtx_level.proofs.leveller.Leveller.settle.Goals as goal

pub returns-else-self : goal.returns-else-self
returns-else-self c =
    sym (settled_off c.args.self.now (ap (λ (x : Holding). x.on) (sym c.self.view_is) ∙ c.if-self.false))
