use Rattle.std.proofs.Common.{length, ap, ◌∙◌, arith}
use Rattle.dtx_acquire.specs.Acquired.{path_cost}
use Rattle.dtx_acquire.specs.Acquirer.{Holding}
use Rattle.dtx_acquire.proofs.WholeLemmas.{length-segments_from}
use Rattle.dtx_acquire.proofs.acquirer.Acquirer.field_cost.Goals as goal

pub returns-clause-cost : goal.returns-clause-cost
returns-clause-cost c =
    c.self.invariant.costs ∙ ap (λ (x : Holding). path_cost x.scale x.heard) c.self.view_is

pub returns-clause-most : goal.returns-clause-most
returns-clause-most c =
    omega (
      arith,
      c.self.inside.giver.field_cost_small,
      ap (λ (x : Holding). length x.heard) c.self.view_is,
      length-segments_from c.self.inside.held 0 c.self.inside.giver.count,
    )
