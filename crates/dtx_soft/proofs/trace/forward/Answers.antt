use Rattle.std.proofs.Common.{◌≡◌, ℕ, ◌+◌, ◌<◌, [], get_or, length, pos, sym, ap, ◌∙◌, subst, arith}
use Rattle.std.proofs.lemmas.List.{get_or-set_other, length-set}
use Rattle.dtx_soft.specs.Gaps.{column}
use Rattle.dtx_soft.specs.Trace.{IsNext, stand_at}
use Rattle.dtx_soft.proofs.ColumnsLemmas.{length-column, symbol_in_column}
use Rattle.dtx_soft.proofs.TracesLemmas.{IsUnderWay, arrives, column-set, goes_further, sets_out}
use Rattle.dtx_soft.proofs.trace.forward.Goals as goal

pub loop-t-init : goal.loop-t-init
loop-t-init c = grind (arith, sets_out)

pub loop-t-preserved : goal.loop-t-preserved
loop-t-preserved c = record {
  long = length-set c.loop-t.rounds c.loop-t.t c.trace_lanes.result ∙ c.loop-t.invariant.long;
  left = λ k l. get_or-set_other c.loop-t.rounds c.loop-t.t k c.trace_lanes.result [] (λ e. absurd (omega arith))
      ∙ c.loop-t.invariant.left k (omega arith);
  under_way = λ n l. subst (λ now. IsUnderWay c.args.scale (column c.args.rounds.now n) now (c.loop-t.t + 1)
      (stand_at c.trace_lanes.new.stands n)) (sym (column-set c.loop-t.rounds n c.loop-t.t c.trace_lanes.result))
      (goes_further c.args.scale (column c.args.rounds.now n) (column c.loop-t.rounds n) c.loop-t.t
      (get_or (get_or c.args.marks.now c.loop-t.t []) n 0) (stand_at c.loop-t.stands n)
      (stand_at c.trace_lanes.new.stands n) (get_or c.trace_lanes.result n (pos 0)) c.requires.scale (within n)
      (long n) (c.requires.walked.marks_are c.loop-t.t n (omega arith) (omega (arith, c.loop-t.invariant.long)) l)
      (next n l) (c.loop-t.invariant.under_way n l));
}
  where
    within : (n : ℕ) → c.loop-t.t < length (column c.args.rounds.now n)
    within n = omega (arith, length-column c.args.rounds.now n, c.loop-t.invariant.long)

    long : (n : ℕ) → length (column c.loop-t.rounds n) ≡ length (column c.args.rounds.now n)
    long n = length-column c.loop-t.rounds n ∙ c.loop-t.invariant.long ∙ sym (length-column c.args.rounds.now n)

    symbol : (n : ℕ) → get_or (get_or c.loop-t.rounds c.loop-t.t []) n (pos 0)
        ≡ get_or (column c.args.rounds.now n) c.loop-t.t (pos 0)
    symbol n = ap (λ round. get_or round n (pos 0)) (c.loop-t.invariant.left c.loop-t.t (omega arith))
        ∙ sym (symbol_in_column c.args.rounds.now n c.loop-t.t (omega (arith, c.loop-t.invariant.long)))

    next : (n : ℕ) → n < 16 → IsNext c.args.scale (get_or (column c.args.rounds.now n) c.loop-t.t (pos 0))
        (get_or (get_or c.args.marks.now c.loop-t.t []) n 0) (stand_at c.loop-t.stands n)
        (stand_at c.trace_lanes.new.stands n) (get_or c.trace_lanes.result n (pos 0))
    next n l = subst (λ v. IsNext c.args.scale v (get_or (get_or c.args.marks.now c.loop-t.t []) n 0)
        (stand_at c.loop-t.stands n) (stand_at c.trace_lanes.new.stands n) (get_or c.trace_lanes.result n (pos 0)))
        (symbol n) (c.trace_lanes.ensures n l)

pub returns-clause-lanes : goal.returns-clause-lanes
returns-clause-lanes c n l = grind (arith, arrives, length-column)

pub returns-clause-costs : goal.returns-clause-costs
returns-clause-costs c n l = grind (arith, arrives, length-column)
