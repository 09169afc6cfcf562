use Rattle.std.proofs.Common.{ap, ◌∙◌}
use Rattle.dtx_galois.specs.Field.{mul}
use Rattle.dtx_galois.proofs.TableEntries.{inverse_at}
use Rattle.dtx_galois.proofs.element.Gf.inv.Goals as goal

pub returns : goal.returns
returns c = ap (mul c.args.self.0) c.power.ensures
    ∙ inverse_at c.logarithm.result c.args.self.0 c.logarithm.ensures.small c.logarithm.ensures.power
