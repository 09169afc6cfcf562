use Rattle.dtx_fast.proofs.StageLemmas.{first_stage}
use Rattle.dtx_fast.proofs.recurrence.Stage.new.Goals as goal

pub returns-clause-stage : goal.returns-clause-stage
returns-clause-stage c s =
    first_stage s _ _ c.one.ensures.first c.one.ensures.others c.one-2.ensures.others
