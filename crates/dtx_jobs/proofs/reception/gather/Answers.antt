use Rattle.std.proofs.Common.{length, ap, arith}
use Rattle.std.proofs.lemmas.List.{length-append}
use Rattle.dtx_jobs.proofs.BytesOf.{gathered_on}
use Rattle.dtx_jobs.proofs.reception.gather.Goals as goal

pub loop-i-preserved : goal.loop-i-preserved
loop-i-preserved c =
    let is = c.push.ensures in
    record {
      bytes = gathered_on c.args.packets.now c.loop-i.packets c.push.new.self c.args.brought.now c.loop-i.i _ is
          c.loop-i.invariant.bytes c.loop-i-test.true;
      long = omega (arith, simp length-append at (ap length is), c.loop-i.invariant.long);
    }
