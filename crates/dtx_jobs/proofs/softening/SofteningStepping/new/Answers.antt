use Rattle.std.proofs.Common.{arith, refl}
use Rattle.dtx_jobs.proofs.SofteningLemmas.{softening_none}
use Rattle.dtx_jobs.proofs.softening.SofteningStepping.new.Goals as goal

pub returns-clause-given : goal.returns-clause-given
returns-clause-given c = record {
  softening = softening_none _ refl refl refl refl;
  is_kept = record {
    room = c.in_ok-vec.ensures.len;
    small = omega arith;
    scale = c.in_ok-scaled.ensures;
    fields = omega arith;
    cost = omega arith;
  };
}
