use Rattle.std.proofs.Common.{refl}
use Rattle.dtx_pins.specs.Steps.{ground}
use Rattle.dtx_pins.proofs.weights.grounded.Goals as goal

pub returns : goal.returns
unfolding ground
returns c = refl
