use Rattle.std.proofs.Common.{sym, subst, arith}
use Rattle.dtx_rounds.specs.RunRounds.{AreOff}
use Rattle.dtx_rounds.proofs.PassedRounds.{off_more}
use Rattle.dtx_rounds.proofs.rounds.empty_rounds.Goals as goal

pub loop-alloc-preserved : goal.loop-alloc-preserved
loop-alloc-preserved c = record {
  off = subst AreOff (sym c.in_ok-push.ensures.items)
      (off_more c.loop-alloc.rounds.items c.in_ok-new.field-0 c.loop-alloc.invariant.off c.in_ok-new.ensures.off);
  few = omega arith;
}
