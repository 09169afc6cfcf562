use Rattle.std.proofs.Common.{◌≡◌, ◌≢◌, ◌⊎◌, inl, inr, sym, subst, arith}
use Rattle.std.proofs.lemmas.Bool.{cases_eq}
use Rattle.dtx_soft.specs.Gaps.{gap_at}
use Rattle.dtx_soft.specs.Trace.{IsStart, stand_at}
use Rattle.dtx_soft.proofs.trace.starts.Goals as goal

pub loop-n-preserved : goal.loop-n-preserved
loop-n-preserved c k l = by_lane (cases_eq k c.loop-n.n)
  where
    by_lane : (k ≡ c.loop-n.n) ⊎ (k ≢ c.loop-n.n) → IsStart (gap_at c.args.gaps.now k) (stand_at c.put_stand.new.stands
        k)
    by_lane (inl e) = grind (arith, c.lane.ensures, c.put_stand.ensures.written, c.start_of.ensures)
    by_lane (inr n) = subst (IsStart (gap_at c.args.gaps.now k)) (sym (c.put_stand.ensures.others k n))
        (c.loop-n.invariant k (omega arith))
