use Rattle.std.proofs.Common.{◌∙◌, arith}
use Rattle.std.proofs.lemmas.List.{length-set}
use Rattle.dtx_correct.specs.Elimination.{IsUnit}
use Rattle.dtx_correct.proofs.Kept.{rows_more}
use Rattle.dtx_correct.proofs.locator.units.Goals as goal

pub loop-k-preserved : goal.loop-k-preserved
loop-k-preserved c = record {
  done = rows_more IsUnit c.loop-k.vectors c.loop-k.k c.unit.result
      (omega (arith, c.loop-k.invariant.long)) c.loop-k.invariant.done c.unit.ensures;
  long = length-set c.loop-k.vectors c.loop-k.k c.unit.result ∙ c.loop-k.invariant.long;
}
