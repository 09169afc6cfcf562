use Rattle.std.proofs.Common.{◌≡◌, ◌≤◌, ◌*◌, get_or, length, sum, sym, ap, ◌∙◌, subst, rules, arith}
use Rattle.dtx_lists.proofs.Range.{map-range_same}
use Rattle.dtx_soft.specs.Coders.{AreLeast, coder_symbols, coders_distance}
use Rattle.dtx_soft.specs.Gaps.{column}
use Rattle.dtx_soft.specs.Paths.{distance}
use Rattle.dtx_soft.proofs.CostLemmas.{sums_small}
use Rattle.dtx_soft.proofs.field.soften_rounds.Goals as goal

pub returns-clause-segments : goal.returns-clause-segments
returns-clause-segments c = record {
  long = search rules;
  syncs = c.put_back.ensures.syncs;
  coders = λ e l. subst (λ old. AreLeast c.args.scale old (coder_symbols c.put_back.new.segments e))
      (c.lay_out.ensures e l) (subst (AreLeast c.args.scale (column c.lay_out.new.rounds e))
      (sym (c.put_back.ensures.coders e l)) (c.forward-costs.ensures.lanes e (omega arith)));
}

pub returns-clause-cost : goal.returns-clause-cost
unfolding coders_distance
returns-clause-cost c =
    c.total.ensures
    ∙ ap sum (map-range_same _
    (λ e. distance (coder_symbols c.args.segments.now e) (coder_symbols c.put_back.new.segments e)) 0 12
    (λ e l m. c.forward-costs.ensures.costs e (omega arith)
    ∙ ap (λ old. distance old (column c.forward-costs.new.rounds e)) (c.lay_out.ensures e (omega arith))
    ∙ ap (distance (coder_symbols c.args.segments.now e)) (sym (c.put_back.ensures.coders e (omega arith)))))

pub returns-clause-most : goal.returns-clause-most
returns-clause-most c =
    let long : length c.lay_out.new.rounds ≡ 69 * length c.args.segments.now = search rules in
    let sum = sums_small (λ e. get_or c.forward-costs.result e 0) (64516 * (69 * length c.args.segments.now)) 12
    (λ e l. subst (λ n. get_or c.forward-costs.result e 0 ≤ 64516 * n) long
    (c.forward-costs.ensures.small e (omega arith))) in
    omega (arith, sum, c.total.ensures)
