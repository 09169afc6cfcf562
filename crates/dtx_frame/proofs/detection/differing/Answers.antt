use Rattle.std.proofs.Common.{◌≡◌, ◌+◌, map, sum, sym, ap, ap₂, ◌∙◌, arith, rules}
use Rattle.std.specs.List.{range_with_len}
use Rattle.std.proofs.lemmas.List.FromFn.{sum_by-map-range_with_len_more}
use Rattle.dtx_frame.specs.Detection.{differs, differing}
use Rattle.dtx_frame.proofs.detection.differing.Goals as goal

pub loop-i-init : goal.loop-i-init
loop-i-init c = search rules

pub loop-i-preserved : goal.loop-i-preserved
loop-i-preserved c = record {
  count = ap₂ ◌+◌ c.loop-i.invariant.count c.differs-count.ensures.differs
      ∙ sym (sum_by-map-range_with_len_more (λ x. x) (differs c.args.segment.now) 0 c.loop-i.i c.loop-i.i
      (omega arith));
  small = omega (arith, c.loop-i.invariant.small, c.differs-count.ensures.small);
}

pub returns : goal.returns
unfolding differing
returns c =
    let e : c.loop-i.i ≡ 515 = omega (arith, c.loop-i-test.false, c.loop-i.auto.i-end) in
    c.loop-i.invariant.count ∙ ap (λ n. sum (map (differs c.args.segment.now) (range_with_len 0 n))) e
