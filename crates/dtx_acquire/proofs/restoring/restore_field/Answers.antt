use Rattle.std.proofs.Common.{◌++◌, ◌*◌, ◌/◌, ap, drop, length, map, rules, take, ◌∙◌}
use Rattle.dtx_soft.specs.Softened.{softened, softened_cost}
use Rattle.dtx_acquire.specs.Acquired.{behind_groups, in_groups, restored_data, restored_field}
use Rattle.dtx_acquire.proofs.restoring.restore_field.Goals as goal

pub soften-cost-requires-clause-whole : goal.soften-cost-requires-clause-whole
soften-cost-requires-clause-whole c = search rules

pub returns-clause-segments : goal.returns-clause-segments
unfolding restored_field in_groups behind_groups
returns-clause-segments c =
    let segments = c.args.segments.now in
    c.restore_all_data.ensures
    ∙ ap (λ xs. map (restored_data c.args.decisions.now.scale) (xs ++ drop (4 * (length segments / 4)) segments))
    (c.soften-cost.ensures.segments
    ∙ ap (λ scale. softened scale (take (4 * (length segments / 4)) segments)) c.requires.scale)

pub returns-clause-cost : goal.returns-clause-cost
unfolding in_groups
returns-clause-cost c =
    let segments = c.args.segments.now in
    c.soften-cost.ensures.cost
    ∙ ap (λ scale. softened_cost scale (take (4 * (length segments / 4)) segments)) c.requires.scale
