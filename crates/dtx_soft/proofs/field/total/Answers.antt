use Rattle.std.proofs.Common.{◌≡◌, get_or, map, sum, ap, ◌∙◌, arith}
use Rattle.std.specs.List.{range_with_len}
use Rattle.std.proofs.lemmas.List.FromFn.{sum_by-map-range_with_len_more}
use Rattle.dtx_soft.proofs.field.total.Goals as goal

pub loop-e-preserved : goal.loop-e-preserved
loop-e-preserved c = grind (arith, sum_by-map-range_with_len_more)

pub returns : goal.returns
returns c =
    let last : c.loop-e.e ≡ 12 = omega arith in
    c.loop-e.invariant.total ∙ ap (λ n. sum (map (λ e. get_or c.args.costs.now e 0) (range_with_len 0 n))) last
