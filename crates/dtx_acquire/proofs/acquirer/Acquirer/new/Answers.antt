use Rattle.std.proofs.Common.{refl}
use Rattle.dtx_acquire.proofs.Fit.{fit_first}
use Rattle.dtx_acquire.proofs.Leaving.{stands_first}
use Rattle.dtx_acquire.proofs.acquirer.Acquirer.new.Goals as goal

pub invariant_of-result : goal.invariant_of-result
invariant_of-result c =
    fit_first c.in_ok-new.ensures c.in_ok-new-2.ensures.total c.in_ok-new-2.ensures.count
    c.in_ok-new-2.ensures.field_cost

pub returns-clause-stands : goal.returns-clause-stands
returns-clause-stands c =
    stands_first _ c.in_ok-new.ensures refl refl c.in_ok-new-2.ensures.runs c.in_ok-new-2.ensures.total
    c.in_ok-new-2.ensures.cost
