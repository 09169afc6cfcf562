use Rattle.std.proofs.Common.{sym, ap, ◌∙◌}
use Rattle.dtx_ops.proofs.RefusingLemmas.{reading_other}
use Rattle.dtx_exciter.specs.Order.{ordered}
use Rattle.dtx_exciter.specs.Packets.{read_fields, reads}
use Rattle.dtx_exciter.proofs.orders.order_of.Goals as goal

pub returns-then-pid-ne-OPERATIONS_PID : goal.returns-then-pid-ne-OPERATIONS_PID
unfolding reads
returns-then-pid-ne-OPERATIONS_PID c =
    record {
      order = sym (ap (λ r. ordered c.args.place (read_fields r))
          (reading_other c.args.packet.now.0 (λ e. c.if-pid-ne-OPERATIONS_PID.true (c.pid.ensures ∙ e))));
      valid = tt;
    }
