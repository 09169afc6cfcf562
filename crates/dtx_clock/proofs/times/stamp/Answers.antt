use Rattle.std.proofs.Common.{refl}
use Rattle.dtx_clock.proofs.times.stamp.Goals as goal

pub returns-clause-stamp : goal.returns-clause-stamp
returns-clause-stamp c = refl
