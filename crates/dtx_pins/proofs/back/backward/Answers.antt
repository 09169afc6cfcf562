use Rattle.std.proofs.Common.{◌≡◌, ◌+◌, ◌-◌, ◌*◌, ◌%◌, ap, length, refl, ◌∙◌, arith, rules}
use Rattle.dtx_lists.proofs.Written.{length-put_mid}
use Rattle.dtx_pins.specs.Walks.{sums_of}
use Rattle.dtx_pins.proofs.PinnedWalks.{none_walked, segment_led}
use Rattle.dtx_pins.proofs.SegmentRows.{row_before}
use Rattle.dtx_pins.proofs.back.backward.Goals as goal

pub loop-i-init : goal.loop-i-init
loop-i-init c = record {
  long = c.requires.pins;
  pins = λ k l. refl;
  bounded = λ e l p s f m. (let z = c.no_sums-sums.ensures e p s l f m in omega (arith, z));
  multiples = λ e l p s f m. ap (λ n. n % 4) (c.no_sums-sums.ensures e p s l f m);
  walked = none_walked c.args.weights.now.scale c.args.cells.now c.args.heard.now (sums_of c.no_sums-sums.result)
      c.args.cells.now c.no_sums-sums.ensures;
}

pub loop-i-preserved : goal.loop-i-preserved
loop-i-preserved c = record {
  long = length-put_mid (69 * (c.loop-i.i - 1)) (69 * (c.loop-i.i - 1) + 69 - 69 * (c.loop-i.i - 1)) c.loop-i.cells
      c.back_segment.new.cells (omega (arith, c.loop-i.invariant.long)) few ∙ c.loop-i.invariant.long;
  pins = λ k l. row_before (69 * (c.loop-i.i - 1)) (69 * (c.loop-i.i - 1) + 69 - 69 * (c.loop-i.i - 1)) k c.loop-i.cells
      c.back_segment.new.cells (omega (arith, c.loop-i.invariant.long)) l
      ∙ c.loop-i.invariant.pins k (omega arith);
  bounded = λ e l p s f m. (let a = c.back_segment.ensures.bounded
      (7168 * (69 * (length c.args.heard.now - c.loop-i.i))) c.loop-i.invariant.bounded e l p s f m in
      omega (arith, a));
  multiples = c.back_segment.ensures.multiples;
  walked = segment_led c.args.weights.now.scale ((c.loop-i.i - 1) % 3) (c.loop-i.i - 1) c.loop-i.i
      (69 * (c.loop-i.i - 1) + 69 - 69 * (c.loop-i.i - 1)) c.args.cells.now c.loop-i.cells c.back_segment.new.cells
      c.args.heard.now (sums_of c.loop-i.sums) (sums_of c.back_segment.new.sums) (omega arith) (omega arith) refl
      (omega arith) c.loop-i.invariant.long few c.loop-i.invariant.pins c.back_segment.ensures.walked
      c.loop-i.invariant.walked;
}
  where
    few : length c.back_segment.new.cells ≡ 69 * (c.loop-i.i - 1) + 69 - 69 * (c.loop-i.i - 1)
    few = search rules
