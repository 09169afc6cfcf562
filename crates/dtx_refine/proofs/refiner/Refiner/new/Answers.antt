use Rattle.std.proofs.Common.{length, refl, sym, ap, subst, arith}
use Rattle.dtx_acquire.specs.Acquired.{acquired_so_far}
use Rattle.dtx_acquire.proofs.AcquiredLemmas.{none_so_far}
use Rattle.dtx_refine.specs.Refiner.{ArePassed}
use Rattle.dtx_refine.proofs.refiner.Refiner.new.Goals as goal

pub returns-clause-stands : goal.returns-clause-stands
returns-clause-stands c = record {
  acquirer = c.in_ok-new.ensures.stands;
  going = refl;
  taken = 0;
  long = ap length (none_so_far c.in_ok-new.field-0.scale);
  passed = λ more.
      subst (λ s. ArePassed s more 0 c.in_ok-new-2.field-0) (sym c.in_ok-new.ensures.scale)
      (c.in_ok-new-2.ensures.passed more);
  done = omega (arith, c.in_ok-new-2.ensures.done);
  few = omega (arith, c.in_ok-new-2.ensures.held);
}

pub invariant_of-result : goal.invariant_of-result
unfolding acquired_so_far
invariant_of-result c = (
  omega (
    arith,
    c.in_ok-new.ensures.stands.few,
    c.in_ok-new.ensures.stands.leaves.segments_are,
    ap length (none_so_far c.in_ok-new.field-0.scale),
  ),
  omega (arith, c.in_ok-new.ensures.symbols),
  omega (arith, c.in_ok-new-2.ensures.held, c.in_ok-new-2.ensures.done),
)
