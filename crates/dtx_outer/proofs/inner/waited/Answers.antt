use Rattle.std.proofs.Common.{refl}
use Rattle.dtx_outer.specs.Inner.{waiting}
use Rattle.dtx_outer.proofs.inner.waited.Goals as goal

pub returns : goal.returns
unfolding waiting
returns g c = refl
