use Rattle.std.proofs.Common.{[], arith, ap, subst, sym, refl}
use Rattle.dtx_dvb.specs.Read.{fixed_in, flagged_in}
use Rattle.dtx_outer.specs.Inner.{Kept, StandsFor}
use Rattle.dtx_recipes.proofs.DvbReadLemmas.{read_none}
use Rattle.dtx_packet_jobs.proofs.dvb_reading.DvbReadingStepping.new.Goals as goal

pub returns-clause-given : goal.returns-clause-given
unfolding fixed_in flagged_in
returns-clause-given c = record {
  reader = subst (λ (r : Kept). StandsFor 204 188 12 17 r []) (sym c.in_ok-new-2.ensures.ok) c.in_ok-new.ensures;
  fixed = sym (ap fixed_in read_none);
  flagged = sym (ap flagged_in read_none);
  blocks = refl;
  bounded = record { fixed = omega arith; flagged = omega arith };
}
