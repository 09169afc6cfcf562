use Rattle.std.proofs.Common.{◌∙◌, arith, get_or}
use Rattle.dtx_fast.proofs.StageLemmas.{least_grown}
use Rattle.dtx_fast.proofs.recurrence.Stage.take.Goals as goal

pub returns-else-n-self-2-clause-refused : goal.returns-else-n-self-2-clause-refused
returns-else-n-self-2-clause-refused c f k b r =
    let self = c.args.self.now in
    omega (
      arith,
      c.if-n-self-2.false,
      least_grown c.args.n self.order self.gap self.inverse.0 (λ i. get_or c.args.syndromes.now i 0)
          (λ i. get_or c.args.self.now.coefficients i 0) (λ i. get_or c.args.self.now.before i 0) c.requires.stage
          (λ z. c.if-difference-eq0.false (c.discrepancy-difference.ensures ∙ z)) k b r,
    )
