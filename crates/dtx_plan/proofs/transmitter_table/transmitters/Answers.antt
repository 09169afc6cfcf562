use Rattle.std.proofs.Common.{arith, ap, ◌+◌, ◌∙◌}
use Rattle.std.proofs.lemmas.Grind.{common_steps}
use Rattle.std.proofs.lemmas.List.{length_push}
use Rattle.dtx_plan.proofs.transmitter_table.transmitters.Goals as goal

pub loop-value-preserved : goal.loop-value-preserved
loop-value-preserved c = record {
  count = rw c.in_ok-push.ensures.ok (length_push c.loop-value.found c.in_ok-next.next
      ∙ ap (λ n. n + 1) c.loop-value.invariant.count);
  same = grind (arith, common_steps);
}
