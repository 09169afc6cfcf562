use Rattle.std.proofs.Common.{◌≡◌, get_or, refl, ◌∙◌, arith}
use Rattle.std.proofs.lemmas.List.{length-set}
use Rattle.dtx_soft.proofs.WritesLemmas.{written_below}
use Rattle.dtx_pins.proofs.lanes.lanes_of.Goals as goal

pub loop-e-preserved : goal.loop-e-preserved
loop-e-preserved c = record {
  long = length-set c.loop-e.lanes c.loop-e.e (get_or c.args.row.now c.loop-e.e 0) ∙ c.loop-e.invariant.long;
  done = written_below (λ k entry. entry ≡ get_or c.args.row.now k 0) c.loop-e.lanes c.loop-e.e
      (get_or c.args.row.now c.loop-e.e 0) (omega (arith, c.loop-e.invariant.long)) c.loop-e.invariant.done refl;
}
