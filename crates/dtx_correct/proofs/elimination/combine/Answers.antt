use Rattle.std.proofs.Common.{◌∙◌, ap₂, bit_xor, get_or, arith}
use Rattle.dtx_correct.proofs.Sums.{combination_back}
use Rattle.dtx_correct.proofs.elimination.combine.Goals as goal

pub loop-i-preserved : goal.loop-i-preserved
loop-i-preserved c =
    c.add-sum.ensures ∙ ap₂ bit_xor c.mul.ensures c.loop-i.invariant
    ∙ combination_back c.args.coefficients.now (λ i. get_or c.args.syndromes.now i 0) c.args.equation c.loop-i.i
    (omega arith) (omega arith)
