use Rattle.std.proofs.Common.{◌+◌, ◌-◌, ◌*◌, [], get_or, ◌∙◌, arith}
use Rattle.std.proofs.lemmas.List.{get_or-set_other, length-set}
use Rattle.dtx_pins.specs.Walks.{sums_of}
use Rattle.dtx_pins.proofs.PinnedWalks.{bounded_more, one_led}
use Rattle.dtx_pins.proofs.back.back_segment.Goals as goal

pub step_all-requires-clause-bounded : goal.step_all-requires-clause-bounded
step_all-requires-clause-bounded c e l p s f m =
    let a = c.loop-r.invariant.bounded 153818112 c.requires.bounded e l p s f m in omega (arith, a)

pub loop-r-preserved : goal.loop-r-preserved
loop-r-preserved c = record {
  long = length-set c.loop-r.cells (c.loop-r.r - 1) c.step_all.result ∙ c.loop-r.invariant.long;
  pins = λ k l. get_or-set_other c.loop-r.cells (c.loop-r.r - 1) k c.step_all.result [] (λ e. absurd (omega arith))
      ∙ c.loop-r.invariant.pins k (omega arith);
  bounded = λ n below e l p s f m. (let a = bounded_more c.args.weights.now.scale _ _ (7168 * (69 - c.loop-r.r) + n)
      (sums_of c.loop-r.sums e) (sums_of c.step_all.new.sums e) _ c.args.weights.now.small
      (c.step_all.ensures.from e l) (c.step_all.ensures.to e l) (c.step_all.ensures.step e l)
      (c.loop-r.invariant.bounded n below e l) p s f m in
      omega (arith, a));
  multiples = c.step_all.ensures.multiples;
  walked = one_led c.args.weights.now.scale c.args.turn c.args.heard.now c.args.cells.now c.loop-r.cells
      (c.loop-r.r - 1) c.loop-r.r (sums_of c.args.sums.now) (sums_of c.loop-r.sums) (sums_of c.step_all.new.sums)
      c.read_turned.result (get_or c.loop-r.cells (c.loop-r.r - 1) []) c.step_all.result c.args.weights.now.small
      (omega arith) (omega arith) c.loop-r.invariant.long c.read_turned.ensures
      (c.loop-r.invariant.pins (c.loop-r.r - 1) (omega arith)) c.step_all.ensures.from c.step_all.ensures.to
      c.step_all.ensures.step c.loop-r.invariant.walked;
}

pub returns-clause-bounded : goal.returns-clause-bounded
returns-clause-bounded c n below e l p s f m =
    let a = c.loop-r.invariant.bounded n below e l p s f m in omega (arith, a)
