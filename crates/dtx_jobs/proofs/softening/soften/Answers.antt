use Rattle.std.proofs.Common.{◌*◌, ◌/◌, ◌++◌, length, take, drop, ap, ◌∙◌, arith, rules, subst}
use Rattle.std.proofs.lemmas.List.{length-take}
use Rattle.dtx_soft.specs.Coders.{IsSoftened}
use Rattle.dtx_soft.proofs.SoftenedLemmas.{cost_is, softened_is}
use Rattle.dtx_recipes.specs.Soft.{flushed, groups_in}
use Rattle.dtx_jobs.proofs.softening.soften.Goals as goal

pub returns : goal.returns
unfolding flushed groups_in
returns c =
    let rows = c.args.rows.now in
    let whole = 4 * (length rows / 4) in
    let groups = take whole rows in
    let new = c.field-cost.new.segments in
    let soft = subst (λ s. IsSoftened s groups new) c.requires.scale c.field-cost.ensures.segments in
    record {
      rows = ap (λ z. z ++ drop whole rows) (softened_is 1 groups new soft c.known.ensures);
      cost = c.field-cost.ensures.cost ∙ cost_is 1 groups new soft;
      most = omega (arith, length-take whole rows, c.requires.few, c.field-cost.ensures.most);
      scale = search rules;
    }
