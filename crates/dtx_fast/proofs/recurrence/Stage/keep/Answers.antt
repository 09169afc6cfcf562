use Rattle.std.proofs.Common.{get_or}
use Rattle.dtx_fast.proofs.StageLemmas.{stage_kept}
use Rattle.dtx_fast.proofs.recurrence.Stage.keep.Goals as goal

pub returns-clause-stage : goal.returns-clause-stage
returns-clause-stage c n s h e =
    let self = c.args.self.now in
    stage_kept n self.order self.gap self.inverse.0 s (λ i. get_or c.args.self.now.coefficients i 0)
    (λ i. get_or c.args.self.now.before i 0) h e
