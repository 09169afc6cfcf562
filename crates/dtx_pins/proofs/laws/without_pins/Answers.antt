use Rattle.dtx_pins.proofs.LeastPinnedLemmas.{without_pins_is}
use Rattle.dtx_pins.proofs.laws.without_pins.Goals as goal

pub returns : goal.returns
returns c = without_pins_is
