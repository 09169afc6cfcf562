use Rattle.std.proofs.Common.{◌∙◌, sym}
use Rattle.dtx_ops.proofs.ReadingsLemmas.{valid_read}
use Rattle.dtx_ops.proofs.RefusingLemmas.{reading_other, reading_none, reading_some}
use Rattle.dtx_ops.proofs.reading.read.Goals as goal

pub returns-then-pid-ne-OPERATIONS_PID : goal.returns-then-pid-ne-OPERATIONS_PID
returns-then-pid-ne-OPERATIONS_PID g c =
    record {
      reading = sym (reading_other c.args.packet.now.0 (λ e. c.if-pid-ne-OPERATIONS_PID.true (c.pid.ensures ∙ e)));
      valid = tt;
    }

pub returns-in-Some : goal.returns-in-Some
returns-in-Some g c =
    let packet = c.args.packet.now.0 in
    let read = c.read_data.ensures ∙ sym (reading_some packet c.in-Some.data (sym c.pid.ensures
    ∙ c.if-pid-ne-OPERATIONS_PID.false) (sym c.in-Some.ensures)) in
    record { reading = read; valid = valid_read packet c.read_data.result read }

pub returns-in-None : goal.returns-in-None
returns-in-None g c =
    record {
      reading = sym (reading_none c.args.packet.now.0 (sym c.pid.ensures
          ∙ c.if-pid-ne-OPERATIONS_PID.false) (sym c.in-None.ensures));
      valid = tt;
    }
