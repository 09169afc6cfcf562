use Rattle.std.proofs.Common.{sym, subst}
use Rattle.dtx_receiver.specs.Receiver.{AreGrouped}
use Rattle.dtx_erase.specs.Sides.{Side}
use Rattle.dtx_erase.proofs.side.Side.take.Goals as goal

pub returns-clause-grouped : goal.returns-clause-grouped
returns-clause-grouped c = λ run given d e.
    c.take.ensures.grouped run given (subst (λ (k : Side). AreGrouped k.groups run given) (sym c.self.view_is) d) e
