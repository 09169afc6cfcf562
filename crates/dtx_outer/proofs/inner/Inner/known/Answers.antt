use Rattle.std.proofs.Common.{subst}
use Rattle.dtx_galois.specs.Field.{AreBytes}
use Rattle.dtx_outer.specs.Inner.{Kept}
use Rattle.dtx_outer.proofs.inner.Inner.known.Goals as goal

pub returns : goal.returns
returns g c = record {
  period = c.self.invariant.0;
  code = c.known.ensures;
  numbers = c.known-2.ensures.numbers;
  widths = rw (← c.self.view_is) c.known-2.ensures.widths;
  long = rw (← c.self.view_is) (g.met.W.Whitener.long c.self.inside.whitener);
  are_bytes = subst (λ (d : Kept). AreBytes d.white) c.self.view_is (g.met.W.Whitener.are_bytes c.self.inside.whitener);
}
