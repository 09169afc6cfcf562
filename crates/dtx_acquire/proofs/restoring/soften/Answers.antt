use Rattle.std.proofs.Common.{◌∙◌}
use Rattle.dtx_soft.proofs.SoftenedLemmas.{cost_is, softened_is}
use Rattle.dtx_acquire.proofs.restoring.soften.Goals as goal

pub returns-clause-segments : goal.returns-clause-segments
returns-clause-segments c =
    softened_is c.args.decoder.now c.args.segments.now c.field-cost.new.segments c.field-cost.ensures.segments
    c.known.ensures

pub returns-clause-cost : goal.returns-clause-cost
returns-clause-cost c =
    c.field-cost.ensures.cost
    ∙ cost_is c.args.decoder.now c.args.segments.now c.field-cost.new.segments c.field-cost.ensures.segments
