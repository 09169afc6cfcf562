use Rattle.std.proofs.Common.{◌∙◌, refl, sym, ap₂, bit_xor, get_or}
use Rattle.dtx_fast.specs.Recurrence.{discrepancy}
use Rattle.dtx_fast.proofs.RecurrenceLemmas.{discrepancy_next}
use Rattle.dtx_fast.proofs.recurrence.Stage.discrepancy.Goals as goal

pub loop-k-init : goal.loop-k-init
unfolding discrepancy
loop-k-init c = refl

pub loop-k-preserved : goal.loop-k-preserved
loop-k-preserved c =
    c.add-sum.ensures ∙ ap₂ bit_xor c.loop-k.invariant c.mul.ensures
    ∙ sym (discrepancy_next c.loop-k.k (λ i. get_or c.args.self.now.coefficients i 0)
    (λ i. get_or c.args.syndromes.now i 0) c.args.n)
