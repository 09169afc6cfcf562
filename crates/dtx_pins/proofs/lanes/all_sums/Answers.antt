use Rattle.std.proofs.Common.{◌≡◌, ◌∙◌, arith}
use Rattle.std.proofs.lemmas.List.{length-set}
use Rattle.dtx_soft.proofs.WritesLemmas.{written_below}
use Rattle.dtx_pins.specs.Walks.{sums_of}
use Rattle.dtx_pins.proofs.lanes.all_sums.Goals as goal

pub loop-e-preserved : goal.loop-e-preserved
loop-e-preserved c = record {
  long = length-set c.loop-e.all c.loop-e.e c.coder_sums.result ∙ c.loop-e.invariant.long;
  done = written_below (λ k sums. sums ≡ sums_of c.args.sums.now k) c.loop-e.all c.loop-e.e c.coder_sums.result
      (omega (arith, c.loop-e.invariant.long)) c.loop-e.invariant.done c.coder_sums.ensures;
}
