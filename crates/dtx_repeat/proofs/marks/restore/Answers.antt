use Rattle.std.proofs.Common.{◌++◌, sym, ap, arith}
use Rattle.dtx_repeat.proofs.RestoredLemmas.{restored_none}
use Rattle.dtx_repeat.proofs.Refilled.{next_on, one_on}
use Rattle.dtx_repeat.proofs.marks.restore.Goals as goal

pub loop-i-init : goal.loop-i-init
loop-i-init c = record {
  next = omega arith;
  packets = ap (λ z. z ++ c.args.packets.now) (sym (restored_none c.args.place));
}

pub loop-i-preserved : goal.loop-i-preserved
loop-i-preserved c = record {
  next = next_on c.args.place c.loop-i.i c.loop-i.next c.loop-i.invariant.next;
  packets = one_on c.args.place c.loop-i.i c.loop-i.next c.args.packets.now c.loop-i.packets _ c.mark.new.packet
      c.loop-i-test.true c.loop-i.invariant.packets c.loop-i.invariant.next c.mark.ensures;
}
