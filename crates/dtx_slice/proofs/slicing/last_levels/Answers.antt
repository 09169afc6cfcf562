use Rattle.std.proofs.Common.{◌<◌, sym, subst, arith}
use Rattle.dtx_slice.specs.Slicing.{sliced_last}
use Rattle.dtx_slice.proofs.Slices.{sliced_from, sliced_small}
use Rattle.dtx_slice.proofs.slicing.last_levels.Goals as goal

pub returns-clause-levels : goal.returns-clause-levels
unfolding sliced_last
returns-clause-levels c =
    sliced_from 820 12 c.args.segment.now c.loop-q.out c.told-segment c.loop-q.invariant.long
    (λ k l. c.loop-q.invariant.written k (omega (arith, c.loop-q-test.false)))

pub returns-clause-small : goal.returns-clause-small
returns-clause-small c = λ k l.
    subst (λ x. x < 8)
    (sym (c.loop-q.invariant.written k (omega (arith, c.loop-q-test.false, c.loop-q.invariant.long))))
    (sliced_small _)
